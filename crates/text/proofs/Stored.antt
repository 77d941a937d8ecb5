-- Laws of bytes that are put into a buffer, one after the other and part after part. Assumes nothing.
use mathlib.Core.Path.{◌≡◌, sym, ap, ap₂, ◌∙◌}
use mathlib.Core.List.{List, [], ◌∷◌, ◌++◌, append_assoc, append-nil}
use Prim.Native.Nat.{ℕ, suc, ◌+◌, ◌≤◌, ◌<◌}
use native.Mathlib.Nat.{add-zero}
use native.Mathlib.Numerals.{add-one}
use native.Mathlib.Omega.{arith}
use lib.ListN.{length, get_or, take, drop, set, length-append, length-drop, take-append-drop}
use lib.Seq.{length-take-le, take-suc, drop-cons, append_snoc, set_at, take_at, drop_at, drop-drop}
use Rattle.text.specs.Put.{stored, Put}

-- What stands before the end of the bytes that were put.
length_front : (xs : List ℕ) (at : ℕ) (old : List ℕ) → at ≤ length old → length (take at old ++ xs) ≡ at + length xs
length_front xs at old l = length-append (take at old) xs ∙ ap (λ n. n + length xs) (length-take-le at old l)

pub length-stored : (xs : List ℕ) (at : ℕ) (old : List ℕ) → at + length xs ≤ length old → length (stored xs at old) ≡ length old
length-stored xs at old l =
    let a : at ≤ length old = omega arith in
    let e = length-append (take at old ++ xs) (drop (at + length xs) old) in
    omega (arith, e, length_front xs at old a, length-drop (at + length xs) old)

-- Nothing is put.
pub stored-none : (at : ℕ) (old : List ℕ) → old ≡ stored [] at old
stored-none at old = sym (ap₂ (λ (p q : List ℕ). p ++ q) (append-nil (take at old)) (ap (λ n. drop n old) (add-zero at)) ∙ take-append-drop at old)

-- One byte more.
pub stored_next : (xs : List ℕ) (at : ℕ) (old : List ℕ) (b : ℕ) → at + length xs < length old
    → set (stored xs at old) (at + length xs) b ≡ stored (xs ++ (b ∷ [])) at old
stored_next xs at old b l =
    let n : ℕ = at + length xs in
    let p : List ℕ = take at old ++ xs in
    let k : suc n ≡ at + length (xs ++ (b ∷ [])) = omega (arith, length-append xs (b ∷ [])) in
    ap (λ (r : List ℕ). set (p ++ r) n b) (drop-cons old n b l)
    ∙ set_at p (get_or old n b) (drop (suc n) old) b n (length_front xs at old (omega arith))
    ∙ sym (append_snoc p b (drop (suc n) old))
    ∙ ap₂ (λ (q : List ℕ) m. q ++ drop m old) (append_assoc (take at old) xs (b ∷ [])) k

-- Bytes after bytes.
pub stored-stored : (xs ys : List ℕ) (at : ℕ) (old : List ℕ) → at + length xs ≤ length old
    → stored ys (at + length xs) (stored xs at old) ≡ stored (xs ++ ys) at old
stored-stored xs ys at old l =
    let n : ℕ = at + length xs in
    let p : List ℕ = take at old ++ xs in
    let e : length p ≡ n = length_front xs at old (omega arith) in
    let m : n + length ys ≡ at + length (xs ++ ys) = omega (arith, length-append xs ys) in
    ap₂ (λ (q r : List ℕ). q ++ ys ++ r) (take_at p (drop n old) n e)
    (sym (drop-drop (length ys) n (p ++ drop n old)) ∙ ap (λ (r : List ℕ). drop (length ys) r) (drop_at p (drop n old) n e) ∙ drop-drop (length ys) n old ∙ ap (λ k. drop k old) m)
    ∙ ap (λ (q : List ℕ). q ++ drop (at + length (xs ++ ys)) old) (append_assoc (take at old) xs ys)

-- A part is put where the part before it ends.
pub put-put : (xs ys : List ℕ) (at e f : ℕ) (old new newer : List ℕ) → at + length xs ≤ length old → Put xs at e old new → Put ys e f new newer
    → Put (xs ++ ys) at f old newer
put-put xs ys at e f old new newer l p q = (
  omega (arith, p.0, q.0, length-append xs ys),
  q.1 ∙ ap₂ (λ k (r : List ℕ). stored ys k r) p.0 p.1 ∙ stored-stored xs ys at old l,
)

-- Five parts from the start of the buffer.
pub put_five : (a b c d e : List ℕ) (i j k l m : ℕ) (old p q r s t : List ℕ) → length a + length b + length c + length d ≤ length old
    → Put a 0 i old p → Put b i j p q → Put c j k q r → Put d k l r s → Put e l m s t → Put (a ++ b ++ c ++ d ++ e) 0 m old t
put_five a b c d e i j k l m old p q r s t room pa pb pc pd pe =
    let n = length-append a b in
    let n' = length-append (a ++ b) c in
    let n'' = length-append (a ++ b ++ c) d in
    put-put (a ++ b ++ c ++ d) e 0 l m old s t (omega (arith, n, n', n'', room))
    (put-put (a ++ b ++ c) d 0 k l old r s (omega (arith, n, n', room))
    (put-put (a ++ b) c 0 j k old q r (omega (arith, n, room)) (put-put a b 0 i j old p q (omega (arith, room)) pa pb) pc) pd) pe

-- The same bytes, named otherwise, from the start of the buffer.
pub put_first : (xs ys : List ℕ) (e : ℕ) (old new : List ℕ) → ys ≡ xs → Put xs 0 e old new → (e ≡ length ys) × (new ≡ ys ++ drop e old)
put_first xs ys e old new q p =
    let k : e ≡ length xs = omega (arith, p.0) in
    (k ∙ ap length (sym q), p.1 ∙ ap₂ (λ (zs : List ℕ) n. zs ++ drop n old) (sym q) (sym p.0))

-- A loop has put i of the bytes, and puts the next.
pub put_next : (bytes : List ℕ) (at end i : ℕ) (old out : List ℕ) → i < length bytes → at + length bytes ≤ length old → end ≡ at + i
    → out ≡ stored (take i bytes) at old → set out end (get_or bytes i 0) ≡ stored (take (i + 1) bytes) at old
put_next bytes at end i old out l room e s =
    let b : ℕ = get_or bytes i 0 in
    let n : length (take i bytes) ≡ i = length-take-le i bytes (omega arith) in
    let k : end ≡ at + length (take i bytes) = omega arith in
    ap₂ (λ (o : List ℕ) m. set o m b) s k
    ∙ stored_next (take i bytes) at old b (omega arith)
    ∙ ap (λ (t : List ℕ). stored t at old) (sym (ap (λ m. take m bytes) (add-one i) ∙ take-suc bytes i 0 l))
