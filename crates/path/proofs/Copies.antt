-- Entries that are stored side by side. Assumes nothing.
use mathlib.Core.Path.{◌≡◌, refl, sym, ap, ap₂, ◌∙◌}
use mathlib.Core.List.{List, [], ◌∷◌, ◌++◌, append-nil, append_assoc}
use Prim.Native.Nat.{ℕ, zero, suc, ◌+◌, ◌-◌, ◌≤◌}
use native.Mathlib.Omega.{arith}
use lib.ListN.{length, take, drop}
use lib.Seq.{length-take-le, take_at, drop_at, take-take, take_all, drop-drop, drop-length, drop-paste, paste}

-- The last four entries are stored.
pub last-four : (s y z : List ℕ) → length s ≡ 32 → length z ≡ 4 → take 32 (s ++ z) ++ (y ++ drop 4 (drop 32 (s ++ z))) ≡ s ++ y
last-four s y z e f =
    ap₂ (λ (a b : List ℕ). a ++ (y ++ drop 4 b)) (take_at s z 32 e) (drop_at s z 32 e)
    ∙ ap (λ (t : List ℕ). s ++ (y ++ t)) (ap (λ k. drop k z) (sym f) ∙ drop-length z)
    ∙ ap (λ (t : List ℕ). s ++ t) (append-nil y)

-- Entries in the place of as many, as a paste.
pub put-paste : (d s : List ℕ) (at n : ℕ) → length s ≡ n → take at d ++ (s ++ drop n (drop at d)) ≡ paste d at s n
put-paste d s at n e =
    ap₂ (λ (t u : List ℕ). take at d ++ (t ++ u)) (sym (take_all n s (omega arith))) (drop-drop n at d)
    ∙ sym (append_assoc (take at d) (take n s) (drop (at + n) d))

-- Entries that are pasted stand where they were pasted,
pub pasted : (d s : List ℕ) (at n : ℕ) → at ≤ length d → length s ≡ n → take n (drop at (paste d at s n)) ≡ s
pasted d s at n h e =
    let t = take n s in
    let w : t ≡ s = take_all n s (omega arith) in
    ap (λ (l : List ℕ). take n (drop at l)) (append_assoc (take at d) t (drop (at + n) d))
    ∙ ap (take n) (drop_at (take at d) (t ++ drop (at + n) d) at (length-take-le at d h))
    ∙ take_at t (drop (at + n) d) n (length-take-le n s (omega arith))
    ∙ w

-- What is read before a place depends on the entries before it.
within : (m i at : ℕ) (l : List ℕ) → i + m ≤ at → take m (drop i (take at l)) ≡ take m (drop i l)
within m zero at l h = take-take m at l (omega arith)
within m (suc i) zero l h = absurd (omega arith)
within m (suc i) (suc at) [] h = refl
within m (suc i) (suc at) (x ∷ l) h = within m i at l (omega arith)

-- those before them stay,
pub before-paste : (d s : List ℕ) (at n i m : ℕ) → i + m ≤ at → at ≤ length d → take m (drop i (paste d at s n)) ≡ take m (drop i d)
before-paste d s at n i m h l =
    let p = paste d at s n in
    let e : take at p ≡ take at d =
    ap (take at) (append_assoc (take at d) (take n s) (drop (at + n) d)) ∙ take_at (take at d) (take n s ++ drop (at + n) d) at (length-take-le at d l) in
    sym (within m i at p h) ∙ ap (λ (q : List ℕ). take m (drop i q)) e ∙ within m i at d h

-- and those after them.
pub after-paste : (d s : List ℕ) (at n i : ℕ) → at + n ≤ i → at ≤ length d → n ≤ length s → drop i (paste d at s n) ≡ drop i d
after-paste d s at n i h l g =
    let k : ℕ = i - (at + n) in
    let e : i ≡ at + n + k = omega arith in
    ap (λ j. drop j (paste d at s n)) e
    ∙ sym (drop-drop k (at + n) (paste d at s n))
    ∙ ap (drop k) (drop-paste d at s n l g)
    ∙ drop-drop k (at + n) d
    ∙ ap (λ j. drop j d) (sym e)
