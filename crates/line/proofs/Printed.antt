-- What is printed of frame decode's result, and of an input of 290 bytes or another length; what a caller needs to lend it on.
-- Assumes nothing.
use mathlib.Core.Path.{◌≡◌, sym, ap, ◌∙◌}
use mathlib.Core.Bool.{true, false}
use mathlib.Core.List.{List, ◌++◌, map}
use Prim.Native.Nat.{ℕ, ◌-◌, ◌≤◌}
use native.Mathlib.Omega.{arith}
use borrow.Author.Tests.{eq-eqb, ne_eqb}
use lib.IntN.{ℤ, pos}
use lib.ListN.{length, get_or, take, drop, replicate, length-append, length-drop}
use lib.Seq.{length-take-le, take_all}
use Rattle.answer.specs.Verdict.{Verdict, is_accepted, number_of, place_of}
use Rattle.plan.specs.declared.Plan.{Plan}
use Rattle.part.specs.Part.{part_length, payload_part}
use Rattle.part.proofs.Length.{part-le}
use Rattle.decode.specs.Jobs.{frame_decode}
use Rattle.line.specs.Line.{ok_lines, refused_line, line_of, signed_byte, plan_of, mask_of, decode_of, line}

-- The payload part of 32 bytes is no longer than they are.
pub part-short : (p : Plan) (mask payload : List ℕ) → length payload ≡ 32 → length (payload_part p mask payload) ≤ 32
unfolding payload_part
part-short p mask payload n =
    let l = part-le p mask (length payload) in
    omega (arith, length-take-le (part_length p mask (length payload)) payload l)

module _ (p : Plan) (mask : List ℕ) (v : Verdict) (scores : List ℤ) (penalties payload : List ℕ) where
  -- A refusal prints its line,
  pub line_refused : is_accepted v ≡ false → line_of p mask (v, scores, penalties, payload) ≡ refused_line (number_of v) (place_of v)
  unfolding line_of
  line_refused e =
      ap (λ c. elim c as (λ _. List ℕ) [ true ↦ ok_lines (get_or penalties 255 0) (payload_part p mask payload) | false ↦ refused_line (number_of v) (place_of v) ]) e

  -- and an acceptance its two.
  pub line-accepted : is_accepted v ≡ true → line_of p mask (v, scores, penalties, payload) ≡ ok_lines (get_or penalties 255 0) (payload_part p mask payload)
  unfolding line_of
  line-accepted e =
      ap (λ c. elim c as (λ _. List ℕ) [ true ↦ ok_lines (get_or penalties 255 0) (payload_part p mask payload) | false ↦ refused_line (number_of v) (place_of v) ]) e

-- The part after the mask, as the code cuts it, has all the value bytes.
pub decode_is : (input : List ℕ) (values : List ℤ) (job : Verdict × List ℤ × List ℕ × List ℕ) → length input ≡ 290
    → values ≡ map signed_byte (take (length input - 34) (drop 34 input))
    → frame_decode (plan_of input) values (mask_of input) (replicate 256 (pos 0)) (replicate 256 0) (replicate 32 0) ≡ job
    → decode_of input ≡ job
unfolding decode_of
decode_is input values job n e j =
    let l : length (drop 34 input) ≤ length input - 34 = omega (arith, length-drop 34 input) in
    ap (λ (ys : List ℤ). frame_decode (plan_of input) ys (mask_of input) (replicate 256 (pos 0)) (replicate 256 0) (replicate 32 0))
    (sym (e ∙ ap (map signed_byte) (take_all (length input - 34) (drop 34 input) l)))
    ∙ j

-- An input of another length is refused,
pub line_other : (input : List ℕ) → (length input ≡ 290 → ⊥) → line input ≡ refused_line 2 0
unfolding line
line_other input n =
    ap (λ c. elim c as (λ _. List ℕ) [ true ↦ line_of (plan_of input) (mask_of input) (decode_of input) | false ↦ refused_line 2 0 ]) (ne_eqb (length input) 290 n)

-- and one of 290 bytes decoded.
pub line-whole : (input : List ℕ) → length input ≡ 290 → line input ≡ line_of (plan_of input) (mask_of input) (decode_of input)
unfolding line
line-whole input n =
    ap (λ c. elim c as (λ _. List ℕ) [ true ↦ line_of (plan_of input) (mask_of input) (decode_of input) | false ↦ refused_line 2 0 ]) (eq-eqb (length input) 290 n)

-- What was put at the start of a buffer is its front: what a caller owes of the part that it lends on.
pub front_fits : (xs : List ℕ) (e : ℕ) (old new : List ℕ) → (e ≡ length xs) × (new ≡ xs ++ drop e old) → (e ≤ length new) × (e ≡ length (take e new))
front_fits xs e old new p =
    let n : e ≤ length new = omega (arith, p.0, ap length p.1 ∙ length-append xs (drop e old)) in
    (n, sym (length-take-le e new n))
