-- Laws of lists of bits and of the search for one. Assumes nothing.
use mathlib.Core.Path.{◌≡◌, refl, sym, ap, ap₂, ◌∙◌}
use mathlib.Core.Bool.{Bool, true, false, not, and-eq-true_iff, false≢true}
use mathlib.Core.List.{List, [], ◌∷◌, ◌++◌, append-nil}
use Prim.Native.Nat.{ℕ, zero, suc, ◌+◌, ◌-◌, ◌≤◌, ◌<◌}
use native.Mathlib.Nat.{suc-add, zero-add, suc_inj}
use native.Mathlib.Numerals.{add-one}
use native.Mathlib.Decide.{dec_lt}
use native.Mathlib.Omega.{arith}
use lib.ListN.{length, get_or, drop, set}
use lib.Seq.{ext_get_or, drop-cons, drop-length, set_at, append_snoc, get_or-set_same, get_or-set_other, get_or-append-add, get_or-drop, paste, paste-suc}
use Rattle.base.specs.Bit.{◌⊕◌, bit, tabulate, same, find}
use Rattle.base.proofs.Bool.{⊕-same, ⊕-self}

pub length-tabulate {ℓ} : {X : Type ℓ} (n : ℕ) (f : ℕ → X) → length (tabulate n f) ≡ n
unfolding tabulate
length-tabulate zero f = refl
length-tabulate (suc n) f = ap suc (length-tabulate n (λ i. f (suc i)))

pub tabulate-at {ℓ} : {X : Type ℓ} (n : ℕ) (f : ℕ → X) (i : ℕ) (d : X) → i < n → get_or (tabulate n f) i d ≡ f i
unfolding tabulate
tabulate-at zero f i d l = absurd (omega arith)
tabulate-at (suc n) f zero d l = refl
tabulate-at (suc n) f (suc i) d l = tabulate-at n (λ k. f (suc k)) i d (omega arith)

pub tabulate-cong {ℓ} : {X : Type ℓ} (n : ℕ) {f g : ℕ → X} → ((i : ℕ) → i < n → f i ≡ g i) → tabulate n f ≡ tabulate n g
unfolding tabulate
tabulate-cong zero h = refl
tabulate-cong {X = X} (suc n) h = ap₂ (λ b (l : List X). b ∷ l) (h zero (omega arith)) (tabulate-cong n (λ i l. h (suc i) (omega arith)))

pub tabulate-append {ℓ} : {X : Type ℓ} (k l : ℕ) (f : ℕ → X) → tabulate (k + l) f ≡ tabulate k f ++ tabulate l (λ i. f (k + i))
unfolding tabulate
tabulate-append zero l f = simp zero-add
tabulate-append {X = X} (suc k) l f = simp suc-add (ap (λ (t : List X). f zero ∷ t) (tabulate-append k l (λ i. f (suc i))))

-- One more element, the others staying.
pub tabulate-next {ℓ} : {X : Type ℓ} (n : ℕ) (f g : ℕ → X) → ((i : ℕ) → i < n → f i ≡ g i) → tabulate (suc n) f ≡ tabulate n g ++ (f n ∷ [])
unfolding tabulate
tabulate-next zero f g h = refl
tabulate-next {X = X} (suc n) f g h =
    ap₂ (λ x (l : List X). x ∷ l) (h zero (omega arith)) (tabulate-next n (λ i. f (suc i)) (λ i. g (suc i)) (λ i l. h (suc i) (omega arith)))

-- A list whose first n entries are those of f.
abbrev pub filled {ℓ} : {X : Type ℓ} → (ℕ → X) → ℕ → List X → List X
filled f n old = tabulate n f ++ drop n old

-- One more of them is stored.
pub fill-next {ℓ} : {X : Type ℓ} (f : ℕ → X) (n : ℕ) (old : List X) (z : X) → n < length old → z ≡ f n → set (filled f n old) n z ≡ filled f (n + 1) old
fill-next {X = X} f n old z l e =
    ap (λ (r : List X). set (tabulate n f ++ r) n z) (drop-cons old n z l)
    ∙ set_at (tabulate n f) (get_or old n z) (drop (suc n) old) z n (length-tabulate n f)
    ∙ ap (λ x. tabulate n f ++ (x ∷ drop (suc n) old)) e
    ∙ sym (append_snoc (tabulate n f) (f n) (drop (suc n) old))
    ∙ ap (λ (l : List X). l ++ drop (suc n) old) (sym (tabulate-next n f f (λ i _. refl)))
    ∙ ap (λ m. filled f m old) (sym (add-one n))

-- The others are as they were.
pub fill-rest {ℓ} : {X : Type ℓ} (f : ℕ → X) (n : ℕ) (old : List X) (i : ℕ) (d : X) → n ≤ i → get_or (filled f n old) i d ≡ get_or old i d
fill-rest f n old i d l =
    let k : ℕ = i - n in
    let e : i ≡ n + k = omega arith in
    ap (λ m. get_or (filled f n old) m d) (e ∙ ap (λ m. m + k) (sym (length-tabulate n f)))
    ∙ get_or-append-add (tabulate n f) (drop n old) k d
    ∙ get_or-drop n old k d
    ∙ ap (λ m. get_or old m d) (sym e)

-- One more entry of which P holds is stored.
pub each_next : {X : Type 0} (P : ℕ → X → Type 0) (out : List X) (n : ℕ) (d v : X) → n < length out
    → ((i : ℕ) → i < n → P i (get_or out i d)) → P n v → (i : ℕ) → i < n + 1 → P i (get_or (set out n v) i d)
each_next P out n d v l h e i li = go (dec_lt i n)
  where
    go : Dec (i < n) → P i (get_or (set out n v) i d)
    go (yes k) = rw (get_or-set_other out n i v d (λ q. omega arith)) (h i k)
    go (no k) = let q : i ≡ n = omega arith in rw (q, get_or-set_same out n v d l) e

-- All of them are stored.
pub fill-all {ℓ} : {X : Type ℓ} (f : ℕ → X) (n : ℕ) (old : List X) → length old ≡ n → filled f n old ≡ tabulate n f
fill-all {X = X} f n old e = ap (λ (l : List X). tabulate n f ++ l) (ap (λ m. drop m old) (sym e) ∙ drop-length old) ∙ append-nil (tabulate n f)

-- A list is what its elements make.
pub tabulate-bits : (u : List Bool) → tabulate (length u) (bit u) ≡ u
unfolding tabulate
tabulate-bits [] = refl
tabulate-bits (b ∷ u) = ap (λ (l : List Bool). b ∷ l) (tabulate-bits u)

-- Lists of n bits are the same where their bits are.
pub same_bits : (n : ℕ) (u v : List Bool) → length u ≡ n → length v ≡ n → ((i : ℕ) → i < n → bit u i ≡ bit v i) → u ≡ v
same_bits n u v eu ev h = ext_get_or false u v (eu ∙ sym ev) (λ i l. h i (rw (← eu) l))

pub same-eq : (u v : List Bool) → same u v ≡ true → u ≡ v
unfolding same
same-eq [] [] t = refl
same-eq [] (b ∷ v) t = absurd (false≢true t)
same-eq (a ∷ u) [] t = absurd (false≢true t)
same-eq (a ∷ u) (b ∷ v) t =
    let h = (and-eq-true_iff (not (a ⊕ b)) (same u v)).0 t in
    ap₂ (λ c (l : List Bool). c ∷ l) (⊕-same a b h.0) (same-eq u v h.1)

pub same_self : (u : List Bool) → same u u ≡ true
unfolding same
same_self [] = refl
same_self (a ∷ u) = (and-eq-true_iff (not (a ⊕ a)) (same u u)).1 (⊕-self a, same_self u)

pub length-find : (n : ℕ) (f : List Bool → Bool) → length (find n f) ≡ n
unfolding find
length-find zero f = refl
length-find (suc n) f = go (f (false ∷ find n (λ u. f (false ∷ u)))) (length-find n (λ u. f (false ∷ u))) (length-find n (λ u. f (true ∷ u)))
  where
    go : (c : Bool) → length (find n (λ u. f (false ∷ u))) ≡ n → length (find n (λ u. f (true ∷ u))) ≡ n
        → length {A = Bool} (elim c [ true ↦ false ∷ find n (λ u. f (false ∷ u)) | false ↦ true ∷ find n (λ u. f (true ∷ u)) ]) ≡ suc n
    go true p q = ap suc p
    go false p q = ap suc q

-- Where f holds of some list, it holds of the one that the search finds.
pub find-holds : (n : ℕ) (f : List Bool → Bool) (u : List Bool) → length u ≡ n → f u ≡ true → f (find n f) ≡ true
unfolding find
find-holds zero f [] e t = t
find-holds zero f (b ∷ u) e t = absurd (omega arith)
find-holds (suc n) f [] e t = absurd (omega arith)
find-holds (suc n) f (b ∷ u) e t =
    go b (λ g. find-holds n g u (suc_inj e)) t (f (false ∷ find n (λ u. f (false ∷ u)))) refl
  where
    go : (b : Bool) → ((g : List Bool → Bool) → g u ≡ true → g (find n g) ≡ true) → f (b ∷ u) ≡ true
        → (c : Bool) → f (false ∷ find n (λ u. f (false ∷ u))) ≡ c
        → f (elim c [ true ↦ false ∷ find n (λ u. f (false ∷ u)) | false ↦ true ∷ find n (λ u. f (true ∷ u)) ]) ≡ true
    go b ih t true p = p
    go true ih t false p = ih (λ u. f (true ∷ u)) t
    go false ih t false p = absurd (false≢true (sym p ∙ ih (λ u. f (false ∷ u)) t))

-- Where f holds of one list only, the search finds that one.
pub find-only : (n : ℕ) (f : List Bool → Bool) (u : List Bool) → length u ≡ n → f u ≡ true
    → ((v : List Bool) → length v ≡ n → f v ≡ true → v ≡ u) → find n f ≡ u
find-only n f u e t only = only (find n f) (length-find n f) (find-holds n f u e t)

-- A buffer that has the first i of some values pasted at a place, with the next one stored.
pub paste-one : {X : Type 0} (old new found : List X) (at i j : ℕ) (d x : X) → at + i < length old → i < length found
    → new ≡ paste old at found i → j ≡ at + i → x ≡ get_or found i d → set new j x ≡ paste old at found (i + 1)
paste-one old new found at i j d x lo lf en ej ex =
    rw (en, ej, ex) (paste-suc old at found i d lo lf) ∙ ap (paste old at found) (sym (add-one i))
