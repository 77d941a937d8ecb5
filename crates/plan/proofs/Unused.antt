-- Kernels of unused layers are ignored. Assumes nothing.
use mathlib.Core.Path.{◌≡◌, refl, ap, ap₂, ◌∙◌}
use mathlib.Core.Bool.{Bool, not, ◌||◌, ◌&&◌}
use Prim.Native.Nat.{ℕ, zero, suc, ◌*◌, ◌/◌, ◌%◌, ◌<◌}
use native.Mathlib.Omega.{arith}
use lib.Dec.{ltb}
use lib.ListN.{get_or}
use Rattle.base.specs.Bit.{bit, parity, every}
use Rattle.polar.specs.Code.{Code}
use Rattle.polar.specs.Kernel.{Kernel}
use Rattle.polar.specs.Frame.{extent, factor, layers}
use Rattle.kernel.specs.Kernels.{kernel}
use Rattle.kernel.specs.Jobs.{is_kernel}
use Rattle.plan.specs.declared.Plan.{Plan}
use Rattle.plan.specs.Plan.{bad_layers, bad_kernels, plan_kernel, plan_code}

-- The code of m layers has nothing of further ones.
module _ (K L : ℕ → Kernel) where
  extent-same : (m : ℕ) → ((i : ℕ) → i < m → K i ≡ L i) → extent K m ≡ extent L m
  extent-same zero h = refl
  extent-same (suc m) h = ap₂ (λ (A : Kernel) n. A.dim * n) (h m (omega arith)) (extent-same m (λ i l. h i (omega arith)))

  factor-same : (m : ℕ) → ((i : ℕ) → i < m → K i ≡ L i) → factor K m ≡ factor L m
  factor-same zero h = refl
  factor-same (suc m) h =
      ap₂ (λ (A : Kernel) (e : ℕ). λ (i p : ℕ). factor K m (i % e) (p / A.dim) && A.entry (i / e) (p % A.dim)) (h m (omega arith)) (extent-same m (λ i l. h i (omega arith)))
      ∙ ap (λ (f : ℕ → ℕ → Bool). λ (i p : ℕ). f (i % extent L m) (p / (L m).dim) && (L m).entry (i / extent L m) (p % (L m).dim)) (factor-same m (λ i l. h i (omega arith)))

  layers-same : (m : ℕ) → ((i : ℕ) → i < m → K i ≡ L i) → layers K m ≡ layers L m
  layers-same m h =
      let code : ℕ → (ℕ → ℕ → Bool) → Code = λ n f. record { size = n; places = n; word = λ u p. parity n (λ i. bit u i && f i p) } in
      ap₂ code (extent-same m h) (factor-same m h)

every-same : (n : ℕ) (f g : ℕ → Bool) → ((i : ℕ) → i < n → f i ≡ g i) → every n f ≡ every n g
unfolding every
every-same zero f g h = refl
every-same (suc n) f g h = ap₂ (λ a b. a && b) (h zero (omega arith)) (every-same n (λ i. f (suc i)) (λ i. g (suc i)) (λ i l. h (suc i) (omega arith)))

-- Two plans of one number of layers with the same kernels in these are refused alike, and have the same code; the definitions of
-- all jobs know a plan by these and by its number of layers alone.
pub unused-ignored : (p q : Plan) → p.layers ≡ q.layers → ((i : ℕ) → i < p.layers → get_or p.kernels i 0 ≡ get_or q.kernels i 0)
    → (bad_layers p ≡ bad_layers q) × (bad_kernels p ≡ bad_kernels q) × (plan_code p ≡ plan_code q)
unfolding bad_layers bad_kernels
unused-ignored p q e h = (
  ap (λ m. ltb m 1 || ltb 3 m) e,
  ap not (every-same p.layers (λ i. is_kernel (get_or p.kernels i 0)) (λ i. is_kernel (get_or q.kernels i 0)) (λ i l. ap is_kernel (h i l)))
      ∙ ap (λ m. not (every m (λ i. is_kernel (get_or q.kernels i 0)))) e,
  layers-same (plan_kernel p) (plan_kernel q) p.layers (λ i l. ap kernel (h i l)) ∙ ap (λ m. layers (plan_kernel q) m) e,
)
