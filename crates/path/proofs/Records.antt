-- Records of paths. Assumes nothing.
use mathlib.Core.Path.{◌≡◌, refl, ap, ap₂, ◌∙◌}
use mathlib.Core.Bool.{Bool}
use mathlib.Core.Logic.{◌≢◌}
use mathlib.Core.List.{List, [], ◌∷◌}
use Prim.Native.Nat.{ℕ, zero, suc, ◌+◌, ◌-◌, ◌*◌, ◌≤◌, ◌<◌}
use native.Mathlib.Decide.{dec_lt}
use native.Mathlib.Omega.{arith}
use lib.ListN.{length, take, drop, get_or, length-append, length-drop}
use lib.Seq.{take_at, drop_at, get_or-take, get_or-drop, length-take-le, length-paste, paste}
use Rattle.bits.specs.Packed.{bits, unpack, pad}
use Rattle.bits.proofs.Packed.{length-unpack, two-bytes-from}
use Rattle.path.specs.Path.{four_bytes, number_of, bytes_of, path_of, path_at}
use Rattle.path.specs.declared.Path.{Path}
use Rattle.path.proofs.Copies.{pasted, before-paste, after-paste}

-- A path is what its parts make.
abbrev parts : List ℕ → ℕ → Path
parts s n = record { symbols = s; penalty = n }

number-four : (n : ℕ) → number_of (four_bytes n) ≡ n
number-four n = omega arith

-- The path of the bytes of a path's record is the path.
pub path_bytes : (p : Path) → length p.symbols ≡ 32 → path_of (bytes_of p) ≡ p
path_bytes p e =
    ap₂ parts
    (take_at p.symbols (four_bytes p.penalty) 32 e)
    (ap number_of (drop_at p.symbols (four_bytes p.penalty) 32 e) ∙ number-four p.penalty)

-- A record has 36 bytes.
pub length-bytes : (p : Path) → length p.symbols ≡ 32 → length (bytes_of p) ≡ 36
length-bytes p e = length-append p.symbols (four_bytes p.penalty) ∙ ap (λ k. k + 4) e

-- What a store of record i does: the length stays, the path is there, the other records and what comes after them stay.
pub stored : (old new b : List ℕ) (i at k : ℕ) (p : Path) → i < 8 → 4096 ≤ length old → length p.symbols ≡ 32
    → at ≡ 512 * i → b ≡ bytes_of p → k ≡ 36 → new ≡ paste old at b k
    → (length new ≡ length old) × (path_at i new ≡ p) × ((j : ℕ) → j < 8 → j ≢ i → path_at j new ≡ path_at j old) × (drop 4096 new ≡ drop 4096 old)
stored old new b i at k p h l e ea eb ek en =
    let c = bytes_of p in
    let n = length-bytes p e in
    let q : new ≡ paste old (512 * i) c 36 = en ∙ ap₂ (λ a (d : List ℕ). paste old a d k) ea eb ∙ ap (paste old (512 * i) c) ek in (
      ap length q ∙ length-paste old (512 * i) c 36 (omega arith) (omega arith),
      ap (path_at i) q ∙ ap path_of (pasted old c (512 * i) 36 (omega arith) n) ∙ path_bytes p e,
      (λ j _ d. ap (path_at j) q ∙ other j d (dec_lt j i)),
      ap (drop 4096) q ∙ after-paste old c (512 * i) 36 4096 (omega arith) (omega arith) (omega arith),
    )
  where
    other : (j : ℕ) → j ≢ i → Dec (j < i) → path_at j (paste old (512 * i) (bytes_of p) 36) ≡ path_at j old
    other j d (yes k) = ap path_of (before-paste old (bytes_of p) (512 * i) 36 (512 * j) 36 (omega arith) (omega arith))
    other j d (no k) =
        let n = length-bytes p e in
        let q : i < j = omega (arith, d) in
        ap (λ (t : List ℕ). path_of (take 36 t)) (after-paste old (bytes_of p) (512 * i) 36 (512 * j) (omega arith) (omega arith) (omega arith))

-- The first n of at least n bits.
pad-take : (n : ℕ) (l : List Bool) → n ≤ length l → pad n l ≡ take n l
unfolding pad
pad-take zero l h = refl
pad-take (suc n) [] h = absurd (omega arith)
pad-take (suc n) (b ∷ l) h = ap (λ (t : List Bool). b ∷ t) (pad-take n l (omega arith))

-- Byte k of the symbols of record i.
symbol-byte : (s : List ℕ) (i k : ℕ) → k < 32 → get_or (path_at i s).symbols k 0 ≡ get_or s (512 * i + k) 0
symbol-byte s i k h =
    get_or-take 32 (take 36 (drop (512 * i) s)) k 0 h ∙ get_or-take 36 (drop (512 * i) s) k 0 (omega arith) ∙ get_or-drop (512 * i) s k 0

-- Byte k of the penalty of record i,
penalty-byte : (s : List ℕ) (i at k : ℕ) → k < 4 → at ≡ 512 * i + 32 → get_or (drop 32 (take 36 (drop (512 * i) s))) k 0 ≡ get_or s (at + k) 0
penalty-byte s i at k h e =
    let f : 512 * i + (32 + k) ≡ at + k = omega (arith, e) in
    get_or-drop 32 (take 36 (drop (512 * i) s)) k 0 ∙ get_or-take 36 (drop (512 * i) s) (32 + k) 0 (omega (arith, h)) ∙ get_or-drop (512 * i) s (32 + k) 0 ∙ ap (λ j. get_or s j 0) f

-- and the penalty, from its four bytes.
pub penalty-read : (s : List ℕ) (i at n : ℕ) → at ≡ 512 * i + 32
    → n ≡ get_or s at 0 * 16777216 + get_or s (at + 1) 0 * 65536 + get_or s (at + 2) 0 * 256 + get_or s (at + 3) 0 → n ≡ (path_at i s).penalty
penalty-read s i at n e f =
    let z : at + 0 ≡ at = omega arith in
    omega (arith, f, penalty-byte s i at 0 (omega arith) e, ap (λ j. get_or s j 0) z, penalty-byte s i at 1 (omega arith) e, penalty-byte s i at 2 (omega arith) e, penalty-byte s i at 3 (omega arith) e)

-- Row r of the symbols of record i, from its two bytes.
pub row-bits : (s : List ℕ) (i r at w : ℕ) → i < 8 → r < 16 → 4096 ≤ length s → at ≡ 512 * i + 2 * r
    → w ≡ 256 * get_or s at 0 + get_or s (at + 1) 0 → get_or s (at + 1) 0 < 256
    → bits 16 w ≡ take 16 (drop (16 * r) (unpack (path_at i s).symbols))
row-bits s i r at w hi hr hl ea ew hw =
    let u = (path_at i s).symbols in
    let q : ℕ = 2 * r in
    let a = symbol-byte s i q (omega arith) in
    let b = symbol-byte s i (q + 1) (omega arith) in
    let f : 512 * i + q ≡ at = omega arith in
    let g : 512 * i + (q + 1) ≡ at + 1 = omega arith in
    let a' : get_or u q 0 ≡ get_or s at 0 = a ∙ ap (λ k. get_or s k 0) f in
    let b' : get_or u (q + 1) 0 ≡ get_or s (at + 1) 0 = b ∙ ap (λ k. get_or s k 0) g in
    let n : length u ≡ 32 = record-length in
    let m : length (drop (8 * q) (unpack u)) ≡ 8 * 32 - 8 * q = length-drop (8 * q) (unpack u) ∙ ap (λ k. k - 8 * q) (length-unpack u ∙ ap (λ k. 8 * k) n) in
    let v : 8 * q ≡ 16 * r = omega arith in
    two-bytes-from u q w (omega arith) (omega arith) ∙ pad-take 16 (drop (8 * q) (unpack u)) (omega arith) ∙ ap (λ k. take 16 (drop k (unpack u))) v
  where
    record-length : length (path_at i s).symbols ≡ 32
    record-length =
        let d = length-drop (512 * i) s in
        length-take-le 32 (take 36 (drop (512 * i) s)) (omega (arith, length-take-le 36 (drop (512 * i) s) (omega arith)))
