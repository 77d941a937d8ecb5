-- `payload::gather` meets its contract: the first j bytes are stored, and the bits that are held and those of the bytes that are left are the rest. Assumes nothing.
use mathlib.Core.Path.{◌≡◌, refl, sym, ap, ap₂, ◌∙◌}
use mathlib.Core.List.{◌++◌}
use Prim.Native.Nat.{ℕ, ◌+◌, ◌-◌, ◌*◌, ◌/◌, ◌%◌, ◌^◌, ◌≤◌, ◌<◌}
use native.Mathlib.Nat.{lt_of_lt_of_le}
use native.Mathlib.Omega.{arith}
use borrow.Author.Rules.{rules}
use lib.ListN.{length, get_or, drop, set, length-set}
use lib.Pow.{pow_mono, shl_exact, shl_lt}
use lib.Seq.{drop-length}
use Rattle.base.specs.Bit.{tabulate}
use Rattle.base.proofs.List.{filled, fill-next}
use Rattle.bits.specs.Packed.{bits, number, unpack}
use Rattle.payload.specs.Payload.{ones, gather}
use Rattle.bits.proofs.Packed.{byte_at, pack-bytes}
use Rattle.payload.proofs.Payload.{ones-next}
use Rattle.payload.proofs.Tables.{marks-le}
use Rattle.payload.proofs.Bytes.{gather-turn, gather-store}
use Rattle.payload.proofs.gather.Invariants.{all}
use Rattle.payload.proofs.gather.Goals as goal
use Rattle.payload.proofs.gather.Goals.{After-marks-k}
use Rattle.payload.proofs.gather.Goals.{else-n-ge8, then-n-ge8}

-- A byte has at most eight marked phases.
few : (c : After-marks-k) → c.marks-k.result ≤ 8
few c =
    let b = c in
    omega (arith, c.marks-k.ensures, marks-le 8 (get_or b.args.mask.now b.loop-i.i 0))

-- What is held, shifted, still fits.
shifted : (c : After-marks-k) →
    let x = c.loop-i.held % 256 * 2 ^ c.marks-k.result in
    (x % 2 ^ 32 ≡ x) × (x < 2 ^ 16)
shifted c =
    let h : c.loop-i.held % 256 < 2 ^ 8 = omega arith in
    let k = few c in
    (shl_exact 8 c.marks-k.result 32 h (omega arith), lt_of_lt_of_le (shl_lt 8 c.marks-k.result h) (pow_mono {j = 16} (omega arith)))

-- The marked symbols of a byte make a byte.
small : (c : After-marks-k) → c.gather_byte-g.result < 256
small c =
    c.gather_byte-g.type_inv

-- There is room for the next byte.
room : (c : After-marks-k) → 8 ≤ c.loop-i.n + c.marks-k.result → c.loop-i.j < length c.loop-i.payload
room c full =
    let l = c.loop-i in
    omega (arith, c.requires.mask_bound, l.invariant.2, l.invariant.3, c.marks-k.ensures, ones-next c.args.mask.now l.i (search rules))

-- The bits that are held with those of the byte, and what is left.
turned : (c : After-marks-k) →
    let a = c.args in
    let l = c.loop-i in
    bits (l.n + c.marks-k.result) (l.held % 256 * 2 ^ c.marks-k.result % 2 ^ 32 + c.gather_byte-g.result)
    ++ gather (unpack (drop (l.i + 1) a.mask.now)) (unpack (drop (l.i + 1) a.symbols.now)) ≡ drop (8 * l.j) (all a.mask.now a.symbols.now)
turned c =
    let s = c in
    let a = s.args in
    let l = c.loop-i in
    let r = gather (unpack (drop (l.i + 1) a.mask.now)) (unpack (drop (l.i + 1) a.symbols.now)) in
    let g = gather (bits 8 (get_or a.mask.now l.i 0)) (bits 8 (get_or a.symbols.now l.i 0)) in
    ap₂ (λ x y. bits (l.n + c.marks-k.result) (x + y) ++ r) (shifted c).0 c.gather_byte-g.ensures
    ∙ ap (λ k. bits (l.n + k) (l.held % 256 * 2 ^ k + number g) ++ r) c.marks-k.ensures
    ∙ gather-turn a.mask.now a.symbols.now l.i l.j l.n l.held (search rules) s.requires.mask_len_bound.1 (omega arith) l.invariant.5

pub loop-i-init : goal.loop-i-init
unfolding tabulate bits
loop-i-init c = (search rules, search rules, refl, omega arith, refl, refl)

pub overflow_shl-held : goal.overflow_shl-held
overflow_shl-held c = omega (arith, few (goal.at.overflow_shl-held c).After-marks-k)

pub overflow_add-held : goal.overflow_add-held
overflow_add-held c = omega (arith, (shifted (goal.at.overflow_add-held c).After-marks-k).0, (shifted (goal.at.overflow_add-held c).After-marks-k).1, small (goal.at.overflow_add-held c).After-marks-k)

pub overflow_add-n : goal.overflow_add-n
overflow_add-n c = omega (arith, few (goal.at.overflow_add-n c).After-marks-k)

pub overflow_shr-payload : goal.overflow_shr-payload
overflow_shr-payload c = omega (arith, few (goal.at.overflow_shr-payload c).After-marks-k)

pub bounds-payload-j : goal.bounds-payload-j
bounds-payload-j c = room (goal.at.bounds-payload-j c).After-marks-k c.if-n-ge8.true

pub loop-i-preserved : goal.loop-i-preserved
loop-i-preserved c =
    let s = c in
    let a = s.args in
    let l = c.loop-i in
    let inv = l.invariant in
    let g = all a.mask.now a.symbols.now in
    let f = filled (byte_at g) in
    let k = c.marks-k.result in
    let x : ℕ = l.held % 256 * 2 ^ k % 2 ^ 32 + c.gather_byte-g.result in
    let r = gather (unpack (drop (l.i + 1) a.mask.now)) (unpack (drop (l.i + 1) a.symbols.now)) in
    let t = turned (goal.at.loop-i-preserved c).After-marks-k in
    let o : 8 * l.j + l.n + k + ones (unpack (drop (l.i + 1) a.mask.now)) ≡ ones (unpack a.mask.now) =
    omega (arith, inv.3, c.marks-k.ensures, ones-next a.mask.now l.i (search rules)) in
    let k8 = few (goal.at.loop-i-preserved c).After-marks-k in
    (elim c.if-n-ge8.branch [
      | then-n-ge8 w ↦ let z : ℕ = x / 2 ^ (l.n + k - 8) % 256 in
          let st = gather-store g r l.j (l.n + k) x w.if-n-ge8.true t in
          let rm = room (goal.at.loop-i-preserved c).After-marks-k w.if-n-ge8.true in (
            search rules,
            omega arith,
            ap length w.payload-is ∙ length-set l.payload l.j _ ∙ inv.2,
            omega arith,
            w.payload-is ∙ ap (λ p. set p l.j z) inv.4 ∙ fill-next (byte_at g) l.j a.payload.now z (omega arith) st.0 ∙ ap (λ n. f n a.payload.now) (sym w.j-is),
            ap (λ n. bits n x ++ r) w.n-is ∙ st.1 ∙ ap (λ n. drop (8 * n) g) (sym w.j-is),
          )
      | else-n-ge8 w ↦ (
        search rules,
        omega arith,
        ap length w.payload-is ∙ inv.2,
        omega arith,
        w.payload-is ∙ inv.4 ∙ ap (λ n. f n a.payload.now) (sym w.j-is),
        ap (λ n. bits n x ++ r) w.n-is ∙ t ∙ ap (λ n. drop (8 * n) g) (sym w.j-is),
      )
    ])

pub returns : goal.returns
unfolding ones unpack
returns c =
    let a = c.args in
    let l = c.loop-i in
    let m = a.mask.now in
    let g = all m a.symbols.now in
    let i : l.i ≡ length m = search rules in
    let o = ap (λ k. ones (unpack (drop k m))) i ∙ ap (λ t. ones (unpack t)) (drop-length m) in
    let e : l.j ≡ ones (unpack m) / 8 = omega (arith, l.invariant.3) in
    l.invariant.4 ∙ ap (λ k. filled (byte_at g) k a.payload.now) e ∙ ap (λ t. t ++ drop (ones (unpack m) / 8) a.payload.now) (sym (pack-bytes (ones (unpack m) / 8) g))
