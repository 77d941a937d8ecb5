-- Levels of folds as the code goes through them, and best scores as thirty-two bits. Assumes nothing.
use mathlib.Core.Path.{◌≡◌, refl, sym, ap, ap₂, ◌∙◌, fun_ext}
use mathlib.Core.Bool.{Bool, true, false}
use mathlib.Core.List.{List}
use Prim.Native.Nat.{ℕ, zero, suc, ◌+◌, ◌*◌, ◌/◌, ◌%◌, ◌^◌, ◌≤◌, ◌<◌, min}
use native.Mathlib.Omega.{arith}
use borrow.Author.Tests.{le-leb, lt-leb}
use lib.Dec.{leb}
use lib.IntN.{pos, neg_ℤ, ◌-ℤ◌, +ℤ_idl}
use lib.Signed.{mag}
use mir.Facts.{to_z-of_z, to_z_pos}
use mir.Syntax.{w32}
use mir.Val.{SFits, to_z, of_z}
use Rattle.base.specs.Bit.{◌⊕◌, bit}
use Rattle.bits.specs.Packed.{bits}
use Rattle.polar.specs.Code.{Costs}
use Rattle.polar.specs.Fold.{free_fold, known_fold, level, folded}
use Rattle.polar.proofs.Folded.{folded-costs}
use Rattle.folds.specs.Range.{value_limit}
use Rattle.folds.specs.Rows.{costs_of, Within, select, Pays}
use Rattle.folds.proofs.Pairs.{known-pays, free-pays, known-le, free-le}
use Rattle.windows.specs.Paths.{FourOf, last_least, path_least}

-- A level whose first half is known,
pub known-level : (h n : ℕ) (y : ℕ → Bool) (m : Costs) → h ≤ n → known_fold h y m ≡ level h n y m
known-level h n y m l = ap (λ c. elim c as (λ _. Costs) [ true ↦ known_fold h y m | false ↦ free_fold h m ]) (sym (le-leb h n l))

-- and one whose first half is not.
pub free-level : (h n : ℕ) (y : ℕ → Bool) (m : Costs) → n < h → free_fold h m ≡ level h n y m
free-level h n y m l = ap (λ c. elim c as (λ _. Costs) [ true ↦ known_fold h y m | false ↦ free_fold h m ]) (sym (lt-leb h n l))

-- The first two levels of a path after n known v, in each quarter.
module _ (n : ℕ) (y : ℕ → Bool) (m : Costs) where
  pub quarter-0 : n < 4 → free_fold 4 (free_fold 8 m) ≡ level 4 (n % 8) (λ i. y (n / 8 * 8 + i)) (level 8 n y m)
  quarter-0 l = ap (free_fold 4) (free-level 8 n y m (omega arith)) ∙ free-level 4 (n % 8) (λ i. y (n / 8 * 8 + i)) (level 8 n y m) (omega arith)

  pub quarter-1 : 4 ≤ n → n < 8 → known_fold 4 y (free_fold 8 m) ≡ level 4 (n % 8) (λ i. y (n / 8 * 8 + i)) (level 8 n y m)
  quarter-1 k l =
      let e : (i : ℕ) → y i ≡ y (n / 8 * 8 + i) = λ i. ap y (omega arith) in
      ap₂ (λ (x : ℕ → Bool) (c : Costs). known_fold 4 x c) (fun_ext e) (free-level 8 n y m (omega arith))
      ∙ known-level 4 (n % 8) (λ i. y (n / 8 * 8 + i)) (level 8 n y m) (omega arith)

  pub quarter-2 : 8 ≤ n → n < 12 → free_fold 4 (known_fold 8 y m) ≡ level 4 (n % 8) (λ i. y (n / 8 * 8 + i)) (level 8 n y m)
  quarter-2 k l = ap (free_fold 4) (known-level 8 n y m (omega arith)) ∙ free-level 4 (n % 8) (λ i. y (n / 8 * 8 + i)) (level 8 n y m) (omega arith)

  pub quarter-3 : 12 ≤ n → n < 16 → known_fold 4 (λ i. y (8 + i)) (known_fold 8 y m) ≡ level 4 (n % 8) (λ i. y (n / 8 * 8 + i)) (level 8 n y m)
  quarter-3 k l =
      let e : (i : ℕ) → y (8 + i) ≡ y (n / 8 * 8 + i) = λ i. ap y (omega arith) in
      ap₂ (λ (x : ℕ → Bool) (c : Costs). known_fold 4 x c) (fun_ext e) (known-level 8 n y m (omega arith))
      ∙ known-level 4 (n % 8) (λ i. y (n / 8 * 8 + i)) (level 8 n y m) (omega arith)

-- One level of all, by costs that it leaves.
pub next_level : (t k r : ℕ) (z x : ℕ → Bool) (m c : Costs) → k % 2 ^ t ≡ r → ((j : ℕ) → z (k / 2 ^ t * 2 ^ t + j) ≡ x j)
    → ((j : ℕ) (b : Bool) → j < 2 ^ t → c j b ≡ level (2 ^ t) k z m j b) → (b : Bool) → folded (suc t) k z m 0 b ≡ folded t r x c 0 b
unfolding folded
next_level t k r z x m c e w h b =
    folded-costs t (k % 2 ^ t) (λ j. z (k / 2 ^ t * 2 ^ t + j)) (λ j l d. sym (h j d l)) b
    ∙ ap₂ (λ i (v : ℕ → Bool). folded t i v c 0 b) e (fun_ext w)

-- The last two levels, one after the other,
two-levels : (n : ℕ) (y : ℕ → Bool) (m : Costs) (b : Bool)
    → level 1 (n % 2) (λ i. y (n / 2 * 2 + i)) (level 2 (n % 4) (λ i. y (n / 4 * 4 + i)) m) 0 b ≡ folded 2 (n % 4) (λ i. y (n / 4 * 4 + i)) m 0 b
unfolding folded
two-levels n y m b =
    let r : n % 4 % 2 ≡ n % 2 = omega arith in
    let two = level 2 (n % 4) (λ i. y (n / 4 * 4 + i)) m in
    let last = level 1 (n % 2) (λ i. y (n / 2 * 2 + i)) two in
    sym
    (next_level 1 (n % 4) (n % 2) (λ i. y (n / 4 * 4 + i)) (λ i. y (n / 2 * 2 + i)) m two r (λ j. ap y (omega arith)) (λ j d l. refl) b
    ∙ next_level 0 (n % 2) 0 (λ i. y (n / 2 * 2 + i)) (λ i. y (n + i)) two last (omega arith) (λ j. ap y (omega arith)) (λ j d l. refl) b)

-- for the symbol b of a path whose last v is c where the symbol is 0.
pub turned : (n : ℕ) (y : ℕ → Bool) (m : Costs) (p q : ℕ)
    → Pays (level 1 (n % 2) (λ i. y (n / 2 * 2 + i)) (level 2 (n % 4) (λ i. y (n / 4 * 4 + i)) m)) 0 p q
    → (c : Bool) → y n ≡ c → (b : Bool) → select p q (c ⊕ b) ≡ folded 2 (n % 4) (λ i. y (n / 4 * 4 + i)) m 0 (y n ⊕ b)
turned n y m p q h c e b =
    pays (c ⊕ b) ∙ two-levels n y m (c ⊕ b) ∙ ap (λ x. folded 2 (n % 4) (λ i. y (n / 4 * 4 + i)) m 0 (x ⊕ b)) (sym e)
  where
    pays : (d : Bool) → select p q d ≡ level 1 (n % 2) (λ i. y (n / 2 * 2 + i)) (level 2 (n % 4) (λ i. y (n / 4 * 4 + i)) m) 0 d
    pays false = h.0
    pays true = h.1

-- The first two levels and the others.
pub four-levels : (n : ℕ) (y : ℕ → Bool) (m four : Costs)
    → ((j : ℕ) (b : Bool) → j < 4 → four j b ≡ level 4 (n % 8) (λ i. y (n / 8 * 8 + i)) (level 8 n y m) j b)
    → (b : Bool) → folded 2 (n % 4) (λ i. y (n / 4 * 4 + i)) four 0 b ≡ folded 4 n y m 0 b
four-levels n y m four h b =
    let r : n % 8 % 4 ≡ n % 4 = omega arith in
    sym
    (next_level 3 n (n % 8) y (λ i. y (n / 8 * 8 + i)) m (level 8 n y m) refl (λ j. refl) (λ j d l. refl) b
    ∙ next_level 2 (n % 8) (n % 4) (λ i. y (n / 8 * 8 + i)) (λ i. y (n / 4 * 4 + i)) (level 8 n y m) four r (λ j. ap y (omega arith)) h b)

-- ---- two places folded onto one, whether or not the first half is known

level-cases : (h n : ℕ) (y : ℕ → Bool) (m : Costs) (P : Costs → Type 0) → (leb h n ≡ true → P (known_fold h y m)) → (leb h n ≡ false → P (free_fold h m)) → P (level h n y m)
level-cases h n y m P f g = go (leb h n) f g
  where
    go : (t : Bool) → (t ≡ true → P (known_fold h y m)) → (t ≡ false → P (free_fold h m)) → P (elim t as (λ _. Costs) [ true ↦ known_fold h y m | false ↦ free_fold h m ])
    go true f g = f refl
    go false f g = g refl

-- The place that they become.
pub level-pays : (h n j : ℕ) (y : ℕ → Bool) (m : Costs) (p q s t u v : ℕ) → Pays m j p q → Pays m (h + j) s t → (c : Bool) → c ≡ y j
    → (leb h n ≡ true → (u ≡ select p q c + s) × (v ≡ select q p c + t)) × (leb h n ≡ false → (u ≡ min (p + s) (q + t)) × (v ≡ min (q + s) (p + t)))
    → Pays (level h n y m) j u v
level-pays h n j y m p q s t u v first second c e k =
    level-cases h n y m (λ m. Pays m j u v)
    (λ f. let d = k.0 f in known-pays h j m p q s t u v first second y c e d.0 d.1)
    (λ f. let d = k.1 f in free-pays h j m p q s t u v first second d.0 d.1)

-- A level at most doubles a bound.
pub level-le : (h n : ℕ) (y : ℕ → Bool) (m : Costs) (b : ℕ) → ((j : ℕ) (d : Bool) → j < h + h → m j d ≤ b) → (j : ℕ) (d : Bool) → j < h → level h n y m j d ≤ b + b
level-le h n y m b most = level-cases h n y m (λ m. (j : ℕ) (d : Bool) → j < h → m j d ≤ b + b) (λ _. known-le h y m b most) (λ _. free-le h m b most)

-- So the first two levels stay within four times a bound.
pub four-le : (n : ℕ) (y : ℕ → Bool) (m four : Costs) (b : ℕ) → ((j : ℕ) (d : Bool) → m j d ≤ b)
    → ((j : ℕ) (d : Bool) → j < 4 → four j d ≡ level 4 (n % 8) (λ i. y (n / 8 * 8 + i)) (level 8 n y m) j d)
    → (j : ℕ) (d : Bool) → j < 4 → four j d ≤ (b + b) + (b + b)
four-le n y m four b most h j d l =
    rw (h j d l) (level-le 4 (n % 8) (λ i. y (n / 8 * 8 + i)) (level 8 n y m) (b + b) (λ j d l. level-le 8 n y m b (λ j d _. most j d) j d l) j d l)

minus-mag : (x : ℕ) → x ≤ 16777216 → mag (neg_ℤ (pos x)) < 2 ^ 31
minus-mag zero l = omega arith
minus-mag (suc x) l = omega arith

minus_is : (x : ℕ) → x ≤ 16777216 → pos 0 -ℤ to_z w32 x ≡ neg_ℤ (pos x)
minus_is x l = ap (λ z. pos 0 -ℤ z) (to_z_pos w32 {n = x} (omega arith)) ∙ +ℤ_idl (neg_ℤ (pos x))

-- Minus a least total fits thirty-two bits,
pub minus-fits : (x : ℕ) → x ≤ 16777216 → SFits w32 (pos 0 -ℤ to_z w32 x)
minus-fits x l = rw (minus_is x l) (record { sfits = minus-mag x l })

-- and is what it should be.
pub minus-back : (x : ℕ) → x ≤ 16777216 → to_z w32 (of_z w32 (pos 0 -ℤ to_z w32 x)) ≡ neg_ℤ (pos x)
minus-back x l = to_z-of_z (minus-fits x l) ∙ minus_is x l

-- ---- a path by its two folds and the other two

module _ (costs four : List (List ℕ)) (high word : ℕ) (h : FourOf costs high four word) where
  -- The two folds of small costs are small,
  pub four-small : Within value_limit costs → (j : ℕ) (b : Bool) → j < 4 → costs_of four j b ≤ 4 * value_limit
  four-small most j b l = omega (arith, four-le high (bit (bits 16 word)) (costs_of costs) (costs_of four) value_limit most h j b l)

  -- and the other two give the least total of the path.
  pub path-least : (path : ℕ) → word ≡ path → (b : Bool) → last_least four high word b ≡ path_least costs high path b
  path-least path e b =
      four-levels high (bit (bits 16 word)) (costs_of costs) (costs_of four) h (bit (bits 16 word) high ⊕ b) ∙ ap (λ v. path_least costs high v b) e
