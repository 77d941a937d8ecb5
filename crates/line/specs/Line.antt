-- What `linkline` prints, from all that it reads. Assumes nothing.
use Rattle.std.specs.Prelude.{true, false, List, [], ◌∷◌, ◌++◌, map, ℕ, eqb, ltb, ℤ, pos, ◌-ℤ◌, length, get_or, take, drop, replicate}
use Rattle.answer.specs.Verdict.{Verdict, is_accepted, number_of, place_of}
use Rattle.plan.specs.declared.Plan.{Plan}
use Rattle.part.specs.Part.{payload_part}
use Rattle.decode.specs.Jobs.{frame_decode}
use Rattle.text.specs.Text.{decimal, hexadecimal}

-- ---- text, as ASCII codes

-- `ok`
abbrev pub ok_text : List ℕ
ok_text = 111 ∷ 107 ∷ []

-- `refused`
abbrev pub refused_text : List ℕ
refused_text = 114 ∷ 101 ∷ 102 ∷ 117 ∷ 115 ∷ 101 ∷ 100 ∷ []

abbrev pub space : List ℕ
space = 32 ∷ []

abbrev pub newline : List ℕ
newline = 10 ∷ []

-- ---- the lines

-- `ok`, a space and the final penalty, then on a second line the payload in small hexadecimal.
unfoldable pub ok_lines : ℕ → List ℕ → List ℕ
ok_lines penalty payload = ok_text ++ space ++ decimal penalty ++ newline ++ hexadecimal payload ++ newline

-- One line `refused`, number and place, with single spaces between.
unfoldable pub refused_line : ℕ → ℕ → List ℕ
refused_line number place = refused_text ++ space ++ decimal number ++ space ++ decimal place ++ newline

-- What is printed of frame decode's verdict, penalties and payload: the final penalty is that of phase 255, and the payload the
-- payload part of its 32 bytes, the first k/8 of them.
unfoldable pub line_of : Plan → List ℕ → Verdict × List ℤ × List ℕ × List ℕ → List ℕ
line_of p mask (v, scores, penalties, payload) =
    elim (is_accepted v) [ true ↦ ok_lines (get_or penalties 255 0) (payload_part p mask payload) | false ↦ refused_line (number_of v) (place_of v) ]

-- ---- the input

-- A value byte in two's complement.
abbrev pub signed_byte : ℕ → ℤ
signed_byte b = elim (ltb b 128) [ true ↦ pos b | false ↦ pos b -ℤ pos 256 ]

-- The plan: two layers, inner kernel A and outer kernel B, which are the first two bytes.
abbrev pub plan_of : List ℕ → Plan
plan_of input = record { layers = 2; kernels = get_or input 0 0 ∷ get_or input 1 0 ∷ 0 ∷ [] }

-- The mask: 32 bytes after those of A and B.
abbrev pub mask_of : List ℕ → List ℕ
mask_of input = take 32 (drop 2 input)

-- The values: all bytes after the mask.
abbrev pub values_of : List ℕ → List ℤ
values_of input = map signed_byte (drop 34 input)

-- Frame decode of an input, into buffers of the length that it needs.
unfoldable pub decode_of : List ℕ → Verdict × List ℤ × List ℕ × List ℕ
decode_of input = frame_decode (plan_of input) (values_of input) (mask_of input) (replicate 256 (pos 0)) (replicate 256 0) (replicate 32 0)

-- All that is printed. Another length than 290 is condition 2, before all else.
unfoldable pub line : List ℕ → List ℕ
line input = elim (eqb (length input) 290) [ true ↦ line_of (plan_of input) (mask_of input) (decode_of input) | false ↦ refused_line 2 0 ]
