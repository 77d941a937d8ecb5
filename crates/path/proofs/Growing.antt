-- More symbols of a path. Assumes nothing.
use mathlib.Core.Path.{◌≡◌, sym, ap, ◌∙◌}
use mathlib.Core.Bool.{Bool, true, false}
use mathlib.Core.List.{List, [], ◌∷◌, ◌++◌, append_assoc}
use Prim.Native.Nat.{ℕ, suc, ◌+◌, ◌-◌, ◌≤◌, ◌<◌}
use native.Mathlib.Omega.{arith}
use lib.ListN.{length, set, replicate, length-append, length-replicate, replicate-append-replicate}
use lib.Seq.{set_at, append_snoc}
use Rattle.bits.specs.Packed.{unpack}

-- The symbols p, and 0 after them.
abbrev Zeroed : List Bool → List Bool
Zeroed p = p ++ replicate (256 - length p) false

-- The place of the next symbol has 0 until it is set.
longer : (p : List Bool) (k : ℕ) (b : Bool) → 256 - length p ≡ suc k → p ++ b ∷ replicate k false ≡ Zeroed (p ++ (b ∷ []))
longer p k b e =
    let n = length-append p (b ∷ []) in
    let f : k ≡ 256 - length (p ++ (b ∷ [])) = omega arith in
    sym (append_snoc p b (replicate k false)) ∙ ap (λ m. (p ++ (b ∷ [])) ++ replicate m false) f

-- The symbol 1 is set.
pub set-one : (p : List Bool) (at : ℕ) (b : Bool) (old new : List ℕ) → at < 256 → b ≡ true → unpack new ≡ set (unpack old) at true
    → length p ≡ at → unpack old ≡ Zeroed p → unpack new ≡ Zeroed (p ++ (b ∷ []))
set-one p at b old new h t e l s = go (255 - at) (omega arith)
  where
    go : (k : ℕ) → 256 - length p ≡ suc k → unpack new ≡ Zeroed (p ++ (b ∷ []))
    go k f =
        e
        ∙ ap (λ u. set u at true) (s ∙ ap (λ m. p ++ replicate m false) f)
        ∙ set_at p false (replicate k false) true at l
        ∙ ap (λ c. p ++ c ∷ replicate k false) (sym t)
        ∙ longer p k b f

-- The symbol 0 stands there already.
pub leave-zero : (p : List Bool) (at : ℕ) (b : Bool) (old : List ℕ) → at < 256 → b ≡ false → length p ≡ at → unpack old ≡ Zeroed p → unpack old ≡ Zeroed (p ++ (b ∷ []))
leave-zero p at b old h t l s = go (255 - at) (omega arith)
  where
    go : (k : ℕ) → 256 - length p ≡ suc k → unpack old ≡ Zeroed (p ++ (b ∷ []))
    go k f = s ∙ ap (λ m. p ++ replicate m false) f ∙ ap (λ c. p ++ c ∷ replicate k false) (sym t) ∙ longer p k b f

-- As do some of them.
pub leave-zeros : (p : List Bool) (n : ℕ) (old new : List ℕ) → new ≡ old → length p + n ≤ 256 → unpack old ≡ Zeroed p → unpack new ≡ Zeroed (p ++ replicate n false)
leave-zeros p n old new e h s =
    let m : ℕ = 256 - length (p ++ replicate n false) in
    let l : length (p ++ replicate n false) ≡ length p + n = length-append p (replicate n false) ∙ ap (λ k. length p + k) (length-replicate n false) in
    let f : 256 - length p ≡ n + m = omega arith in
    ap unpack e
    ∙ s
    ∙ ap (λ k. p ++ replicate k false) f
    ∙ ap (λ t. p ++ t) (sym (replicate-append-replicate n m false))
    ∙ sym (append_assoc p (replicate n false) (replicate m false))
