-- The starred bench cases, as one table of what the definitions give. Assumes nothing.
use Rattle.std.specs.Prelude.{◌≡◌, List, [], ◌∷◌, ◌++◌, map, ℕ, true, false, Float, ℤ, pos, negsuc, length, get_or, set, replicate}
use Rattle.std.specs.Float.{fin, binary32}
use Rattle.std.specs.Float.Ieee.{fits}
use Rattle.base.specs.Bit.{tabulate}
use Rattle.bits.specs.Packed.{number, unpack}
use Rattle.answer.specs.Verdict.{word, done, refused}
use Rattle.polar.specs.Relation.{unit}
use Rattle.kernel.specs.Jobs.{kernel_encode}
use Rattle.kernel.specs.Distances.{distance_table}
use Rattle.order.specs.Order.{marked_phases}
use Rattle.order.specs.Jobs.{information_mask}
use Rattle.follow.specs.Jobs.{kernel_follow}
use Rattle.quantiser.specs.Jobs.{values_from_marks}

-- A case of the table.
pub data Case : Type 0 where
  -- Kernel k, only symbol s set: the word w.
  encoding : (k s w : ℕ) → Case
  -- Kernel k, all sixteen values the same, symbols 0: the sixteen scores.
  following : (k : ℕ) (value : ℤ) (scores : List ℤ) → Case
  -- Kernel k, all sixteen values the same, symbols 0: the last score.
  following_last : (k : ℕ) (value score : ℤ) → Case
  -- Kernel k, one value at place i, the others 0: refused by condition n at that place.
  value_refused : (k i : ℕ) (value : ℤ) (n : ℕ) → Case
  -- Information mask for p bytes of payload: the phases that it marks.
  masking : (p : ℕ) (phases : List ℕ) → Case
  -- Information mask for p bytes: refused by condition n.
  size_refused : (p n : ℕ) → Case
  -- A scale, all 256 amplitudes the same, no mark blanked: all 256 values the same. `fin minus m e` is m * 2 ^ e, or minus that.
  quantising : (scale amplitude : Float) (value : ℤ) → Case

-- What a case says. A refused request leaves every buffer as it was.
abbrev pub Holds : Case → Type 0
Holds (encoding k s w) = kernel_encode k (number (unit 16 s)) ≡ word w
Holds (following k value scores) = kernel_follow k (replicate 16 value) 0 (replicate 16 (pos 0)) ≡ (done, scores)
Holds (following_last k value score) =
    let r = kernel_follow k (replicate 16 value) 0 (replicate 16 (pos 0)) in
    (r.0 ≡ done) × (get_or r.1 15 (pos 0) ≡ score)
Holds (value_refused k i value n) =
    (out : List ℤ) → length out ≡ 16 → kernel_follow k (set (replicate 16 (pos 0)) i value) 0 out ≡ (refused n i, out)
Holds (masking p phases) =
    let r = information_mask p (replicate 32 0) in
    (r.0 ≡ done) × (marked_phases (unpack r.1) ≡ phases)
Holds (size_refused p n) = (out : List ℕ) → length out ≡ 32 → information_mask p out ≡ (refused n 0, out)
Holds (quantising scale x value) =
    (fits binary32 scale ≡ true)
    × (fits binary32 x ≡ true)
    × (values_from_marks scale (replicate 256 x) (replicate 16 0) (replicate 256 (pos 0)) ≡ (done, replicate 256 value))

-- 32768 at each of the sixteen places.
abbrev pub outside : ℕ → List Case
outside k = tabulate 16 (λ i. value_refused k i (pos 32768) 6)

-- An amplitude and its value with scale 32.0, which is 1 * 2 ^ 5.
abbrev pub at32 : Float → ℤ → Case
at32 amplitude value = quantising (fin false 1 (pos 5)) amplitude value

-- The table: every case of every bullet of the paper that has a star, with 2048 and 32768 as request E6 has them, and the greatest
-- score. Where all values are 1, the scores are the partial distances.
-- The amplitudes are 1.0, 0.015625, 0.046875, 3.96875, 4.0, -4.0 and minus zero, with scale 32.0.
abbrev pub starred : List Case
starred =
    encoding 1 9 0xa6c0
    ∷ encoding 2 8 0xa6c0
    ∷ encoding 1 10 0x6ca0
    ∷ encoding 1 5 0xc0c0
    ∷ encoding 0 5 0xcc00
    ∷ following 0 (pos 1) (map pos (distance_table 0))
    ∷ following 1 (pos 1) (map pos (distance_table 1))
    ∷ following 2 (pos 1) (map pos (distance_table 2))
    ∷ following 0 (pos 0) (replicate 16 (pos 0))
    ∷ following 1 (pos 0) (replicate 16 (pos 0))
    ∷ following 2 (pos 0) (replicate 16 (pos 0))
    ∷ following_last 0 (pos 2047) (pos 32752)
    ∷ following_last 1 (pos 2047) (pos 32752)
    ∷ following_last 2 (pos 2047) (pos 32752)
    ∷ following_last 0 (pos 2048) (pos 32768)
    ∷ following_last 1 (pos 2048) (pos 32768)
    ∷ following_last 2 (pos 2048) (pos 32768)
    ∷ following_last 0 (pos 32767) (pos 524272)
    ∷ following_last 1 (pos 32767) (pos 524272)
    ∷ following_last 2 (pos 32767) (pos 524272)
    ∷ masking 1 (191 ∷ 223 ∷ 239 ∷ 250 ∷ 251 ∷ 253 ∷ 254 ∷ 255 ∷ [])
    ∷ size_refused 0 8
    ∷ size_refused 33 8
    ∷ at32 (fin false 1 (pos 0)) (pos 32)
    ∷ at32 (fin false 1 (negsuc 5)) (pos 1)
    ∷ at32 (fin false 3 (negsuc 5)) (pos 2)
    ∷ at32 (fin false 127 (negsuc 4)) (pos 127)
    ∷ at32 (fin false 1 (pos 2)) (pos 127)
    ∷ at32 (fin true 1 (pos 2)) (negsuc 126)
    ∷ at32 (fin true 0 (pos 0)) (pos 0)
    ∷ outside 0 ++ outside 1 ++ outside 2

-- Every case of a table holds.
abbrev pub AllHold : List Case → Type 0
AllHold [] = Unit {0}
AllHold (c ∷ cs) = Holds c × AllHold cs
