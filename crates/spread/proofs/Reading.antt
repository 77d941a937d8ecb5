-- Reading four bytes. Assumes nothing.
use Rattle.std.proofs.Common.{◌≡◌, ℕ, ◌+◌, ◌*◌, ◌<◌, List, get_or, drop, sym, refl, ap, ◌∙◌, arith, drop-drop}
use Rattle.bits.specs.Packed.{bits, unpack, pad}
use Rattle.bits.proofs.Packed.{side_by_side, two-bytes-from}

-- Four bytes, from byte q on.
pub four-bytes-from : (s : List ℕ) (q x : ℕ)
    → x ≡ 65536 * (256 * get_or s q 0 + get_or s (q + 1) 0) + (256 * get_or s (q + 2) 0 + get_or s (q + 3) 0)
    → ((i : ℕ) → get_or s i 0 < 256) → bits 32 x ≡ pad 32 (drop (8 * q) (unpack s))
four-bytes-from s q x e h =
    let a : ℕ = 256 * get_or s q 0 + get_or s (q + 1) 0 in
    let b : ℕ = 256 * get_or s (q + 2) 0 + get_or s (q + 3) 0 in
    let n : 8 * (q + 2) ≡ 8 * q + 16 = omega arith in
    let k : q + 2 + 1 ≡ q + 3 = omega arith in
    ap (bits 32) e
    ∙ side_by_side 16 a b (drop (8 * q) (unpack s)) (omega (arith, h (q + 2), h (q + 3)))
    (two-bytes-from s q a refl (h (q + 1)))
    (two-bytes-from s (q + 2) b (ap (λ i. 256 * get_or s (q + 2) 0 + get_or s i 0) (sym k)) (h (q + 2 + 1))
    ∙ ap (λ i. pad 16 (drop i (unpack s))) n ∙ ap (pad 16) (sym (drop-drop 16 (8 * q) (unpack s))))
