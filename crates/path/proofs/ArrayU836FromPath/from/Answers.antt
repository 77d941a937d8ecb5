-- The bytes of a path's record are those of its symbols and of its penalty. Assumes nothing.
use mathlib.Core.Path.{◌≡◌, refl, ap₂, ◌∙◌}
use mathlib.Core.List.{List, [], ◌∷◌, ◌++◌}
use Prim.Native.Nat.{ℕ}
use lib.ListN.{length, take, drop}
use Rattle.path.specs.Path.{four_bytes}
use Rattle.path.proofs.Copies.{last-four}
use borrow.Author.Rules.{rules}
use Rattle.path.proofs.ArrayU836FromPath.from.Goals as goal

pub returns : goal.returns
returns c =
    let p = c.args.path in
    let n : length p.symbols ≡ 32 = search rules in
    let s : c.copy_from_slice.new.self ≡ p.symbols = search rules in
    let y : c.copy_from_slice-2.new.self ≡ four_bytes p.penalty = search rules in
    let z : List ℕ = 0 ∷ 0 ∷ 0 ∷ 0 ∷ [] in
    ap₂ (λ (t u : List ℕ). take 32 (t ++ z) ++ (u ++ drop 4 (drop 32 (t ++ z)))) s y ∙ last-four p.symbols (four_bytes p.penalty) z n refl
