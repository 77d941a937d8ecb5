-- Parts pasted one after the other into a buffer. Assumes nothing.
use mathlib.Core.Path.{◌≡◌, sym, ap, ap₂, ◌∙◌}
use mathlib.Core.List.{List, ◌++◌, append_assoc}
use Prim.Native.Nat.{ℕ, ◌+◌, ◌≤◌, ◌<◌}
use native.Mathlib.Nat.{add_assoc}
use native.Mathlib.Omega.{arith}
use lib.ListN.{length, get_or, take, drop, length-append, get_or-append}
use lib.Seq.{paste, length_paste_head, length-take-le, take_at, take_all, drop_at, drop-drop, get_or-take, get_or-append-add}

-- A second part pasted after the first.
pub paste_more : {X : Type 0} (old p q : List X) (at n k : ℕ) → at + n ≤ length old → length p ≡ n → length q ≡ k
    → paste (paste old at p n) (at + n) q k ≡ paste old at (p ++ q) (n + k)
paste_more {X} old p q at n k l ep eq =
    let h : length (take at old ++ take n p) ≡ at + n = length_paste_head old at p n (omega arith) (omega arith) in
    let t : take n p ≡ p = take_all n p (omega arith) in
    let t' : take k q ≡ q = take_all k q (omega arith) in
    let t'' : take (n + k) (p ++ q) ≡ p ++ q = take_all (n + k) (p ++ q) (omega (arith, length-append p q)) in
    ap₂ (λ (x y : List X). x ++ take k q ++ y)
    (take_at (take at old ++ take n p) (drop (at + n) old) (at + n) h)
    (sym (drop-drop k (at + n) (paste old at p n))
    ∙ ap (drop k) (drop_at (take at old ++ take n p) (drop (at + n) old) (at + n) h) ∙ drop-drop k (at + n) old ∙ ap (λ z. drop z old) (add_assoc at n k))
    ∙ ap₂ (λ (x y : List X). take at old ++ x ++ y ++ drop (at + (n + k)) old) t t'
    ∙ ap (λ (x : List X). x ++ drop (at + (n + k)) old) (append_assoc (take at old) p q)
    ∙ ap (λ (x : List X). take at old ++ x ++ drop (at + (n + k)) old) (sym t'')

-- What a pasted part changes, and what not.
module _ {X : Type 0} (old new : List X) (at n : ℕ) (d : X) (lo : at ≤ length old) (ln : n ≤ length new) where
  pub paste-before : (i : ℕ) → i < at → get_or (paste old at new n) i d ≡ get_or old i d
  paste-before i l =
      get_or-append (take at old ++ take n new) (drop (at + n) old) d i (omega (arith, length_paste_head old at new n lo ln))
      ∙ get_or-append (take at old) (take n new) d i (omega (arith, length-take-le at old lo)) ∙ get_or-take at old i d l

  pub paste-within : (i : ℕ) → i < n → get_or (paste old at new n) (at + i) d ≡ get_or new i d
  paste-within i l =
      get_or-append (take at old ++ take n new) (drop (at + n) old) d (at + i) (omega (arith, length_paste_head old at new n lo ln))
      ∙ ap (λ k. get_or (take at old ++ take n new) (k + i) d) (sym (length-take-le at old lo))
      ∙ get_or-append-add (take at old) (take n new) i d ∙ get_or-take n new i d l
