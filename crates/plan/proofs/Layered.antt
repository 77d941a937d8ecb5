-- What a plan that is not refused has. Assumes nothing.
use mathlib.Core.Path.{◌≡◌, refl, sym, ap, ◌∙◌}
use mathlib.Core.Bool.{Bool, true, false, not, ◌&&◌}
use mathlib.Core.List.{List, [], ◌∷◌}
use Prim.Native.Nat.{ℕ, zero, suc, ◌-◌, ◌*◌, ◌^◌, ◌≤◌, ◌<◌}
use native.Mathlib.Nat.{pow-succ'}
use native.Mathlib.Omega.{arith}
use borrow.Author.Tests.{not-false, ltb-false}
use lib.Dec.{ltb, lit≤}
use lib.ListN.{length, get_or, take}
use Rattle.std.specs.List.{list_all}
use Rattle.base.specs.Bit.{every}
use Rattle.base.proofs.Bool.{or-eq-false, every-at}
use Rattle.polar.proofs.Layers.{extent-power}
use Rattle.kernel.specs.Jobs.{is_kernel}
use Rattle.kernel.proofs.Checks.{kernel-lt}
use Rattle.plan.specs.declared.Plan.{Plan}
use Rattle.plan.specs.Plan.{bad_layers, bad_kernels, plan_kernel, plan_code, symbol_count, byte_count}

-- It has a layer or more, and three at most.
pub layers-some : (p : Plan) → bad_layers p ≡ false → 1 ≤ p.layers
unfolding bad_layers
layers-some p h = ltb-false p.layers 1 (or-eq-false (ltb p.layers 1) (ltb 3 p.layers) h).0

pub layers-few : (p : Plan) → bad_layers p ≡ false → p.layers ≤ 3
unfolding bad_layers
layers-few p h = ltb-false 3 p.layers (or-eq-false (ltb p.layers 1) (ltb 3 p.layers) h).1

-- There is a kernel of each of its layers' numbers.
pub kernels-known : (p : Plan) → bad_kernels p ≡ false → (i : ℕ) → i < p.layers → get_or p.kernels i 0 < 3
unfolding bad_kernels
kernels-known p h i l = kernel-lt _ (every-at p.layers (λ i. is_kernel (get_or p.kernels i 0)) (not-false _ h) i l)

-- Powers of sixteen: one layer more,
pub power-next : (m : ℕ) → 16 ^ suc m ≡ 16 * 16 ^ m
power-next m = rw pow-succ'

-- and at most three.
pub power-few : (m : ℕ) → m ≤ 3 → 16 ^ m ≤ 4096
power-few zero l = lit≤ tt
power-few (suc zero) l = lit≤ tt
power-few (suc (suc zero)) l = lit≤ tt
power-few (suc (suc (suc zero))) l = lit≤ tt
power-few (suc (suc (suc (suc m)))) l = absurd (omega arith)

-- ---- how much a plan with layers has

pub plan-size : (p : Plan) → (plan_code p).size ≡ symbol_count p
plan-size p = extent-power 16 (plan_kernel p) (λ _. refl) p.layers

-- Eight bits to a byte, two bytes to a row.
pub bytes_bits : (p : Plan) → bad_layers p ≡ false → 8 * byte_count p ≡ symbol_count p
bytes_bits p h =
    let e : p.layers ≡ suc (p.layers - 1) = omega (arith, layers-some p h) in
    omega (arith, ap (λ m. 16 ^ m) e, power-next (p.layers - 1))

pub bytes-rows : (p : Plan) → bad_layers p ≡ false → byte_count p ≡ 2 * 16 ^ (p.layers - 1)
bytes-rows p h =
    let e : p.layers ≡ suc (p.layers - 1) = omega (arith, layers-some p h) in
    omega (arith, ap (λ m. 16 ^ m) e, power-next (p.layers - 1))

-- There are 512 bytes at most, and 256 rows.
pub bytes-few : (p : Plan) → bad_layers p ≡ false → byte_count p ≤ 512
bytes-few p h = omega (arith, power-few p.layers (layers-few p h))

pub rows_few : (p : Plan) → bad_layers p ≡ false → 16 ^ (p.layers - 1) ≤ 256
rows_few p h = omega (arith, bytes-few p h, bytes-rows p h)

-- ---- a test of all numbers below n
pub every-all : (n : ℕ) (f : ℕ → Bool) → ((i : ℕ) → i < n → f i ≡ true) → every n f ≡ true
unfolding every
every-all zero f h = refl
every-all (suc n) f h = rw (h zero (omega arith)) (every-all n (λ k. f (suc k)) (λ i l. h (suc i) (omega arith)))

-- ---- the kernels of its layers

all-every : (f : ℕ → Bool) (m : ℕ) (xs : List ℕ) → m ≤ length xs → list_all f (take m xs) ≡ every m (λ i. f (get_or xs i 0))
unfolding every
all-every f zero xs l = refl
all-every f (suc m) [] l = absurd (omega arith)
all-every f (suc m) (x ∷ xs) l = ap (λ b. f x && b) (all-every f m xs (omega arith))

-- The test of the kernels of the first layers.
pub kernels-all : (p : Plan) (m : ℕ) → m ≡ p.layers → p.layers ≤ length p.kernels → list_all is_kernel (take m p.kernels) ≡ not (bad_kernels p)
unfolding bad_kernels
kernels-all p m e l = rw e (all-every is_kernel p.layers p.kernels l ∙ go (every p.layers (λ i. is_kernel (get_or p.kernels i 0))))
  where
    go : (b : Bool) → b ≡ not (not b)
    go true = refl
    go false = refl

-- ---- a test of a plan in the code: what its outcome says of the condition

pub refused-by : (b r : Bool) → r ≡ not b → not r ≡ true → b ≡ true
refused-by true r e t = refl
refused-by false r e t = sym (ap not e) ∙ t

pub passed-by : (b r : Bool) → r ≡ not b → not r ≡ false → b ≡ false
passed-by true r e t = sym (ap not e) ∙ t
passed-by false r e t = refl
