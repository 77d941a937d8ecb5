-- `path::store` meets its contract. Assumes nothing.
use mathlib.Core.Path.{◌≡◌, refl, sym, ap, ◌∙◌}
use Prim.Native.Nat.{ℕ, ◌+◌, ◌-◌, ◌*◌}
use native.Mathlib.Omega.{arith}
use lib.ListN.{length}
use Rattle.path.specs.Path.{bytes_of}
use Rattle.path.proofs.Copies.{put-paste}
use Rattle.path.proofs.Records.{length-bytes, stored}
use borrow.Author.Rules.{rules}
use Rattle.path.proofs.store.Goals as goal

pub returns : goal.returns
returns c =
    let a = c.args in
    let at : ℕ = 512 * a.i in
    let k : at + 36 - at ≡ 36 = omega arith in
    let n : length a.p.symbols ≡ 32 = search rules in
    let b = c.copy_from_slice.new.self in
    let e : b ≡ bytes_of a.p = search rules in
    let l : length b ≡ at + 36 - at = ap length e ∙ length-bytes a.p n ∙ sym k in
    stored a.scratch.now _ b a.i at _ a.p c.requires.0 c.requires.1 n refl e k (put-paste a.scratch.now b at (at + 36 - at) l)
