-- Codes that undo one another, and their stages. Assumes nothing.
use mathlib.Core.Path.{◌≡◌, refl, sym, ap, ap₂, ◌∙◌}
use mathlib.Core.Bool.{Bool, false}
use mathlib.Core.List.{List, ◌∷◌, map}
use Prim.Native.Nat.{ℕ, zero, suc, ◌+◌, ◌*◌, ◌/◌, ◌%◌, ◌<◌}
use native.Mathlib.Nat.{suc-mul, zero-add, mul-suc, mul-zero, mul_comm, add_comm, div-add-mod, mod-lt, div-lt_iff_lt-mul, mul-le-mul_left}
use native.Mathlib.Omega.{arith}
use lib.ListN.{length, take, drop, length-map, length-take, length-drop}
use lib.Seq.{take_at, drop_at, drop-drop, get_or-take, get_or-drop}
use Rattle.base.specs.Bit.{bit, tabulate, same}
use Rattle.base.proofs.List.{length-tabulate, tabulate-at, tabulate-cong, tabulate-append, same_bits, same-eq, same_self, length-find, find-only}
use Rattle.polar.specs.Code.{Code, Onto, UndoneBy, symbols_in}
use Rattle.polar.specs.Stages.{rows, column, staged}
use Rattle.polar.proofs.Minima.{quot, rest}
use Rattle.polar.proofs.Layer.{length-rows, pos-right}

-- Entry r of a column: the bit of row r.
pub column-at : (A : Code) (n k : ℕ) (u : List Bool) (j r : ℕ) → r < k → bit (column A (rows n k u) j) r ≡ A.word (take n (drop (n * r) u)) j
unfolding rows
column-at A n zero u j r l = absurd (omega arith)
column-at A n (suc k) u j zero l = rw mul-zero
column-at A n (suc k) u j (suc r) l =
    rw (mul-suc, add_comm (n * r) n, ← (drop-drop (n * r) n u)) (column-at A n k (drop n u) j r (omega arith))

-- What g makes of each of k blocks of w bits.
blocks : (g : List Bool → Bool) (k w : ℕ) (f : ℕ → Bool) → map g (rows w k (tabulate (k * w) f)) ≡ tabulate k (λ j. g (tabulate w (λ t. f (w * j + t))))
unfolding rows tabulate
blocks g zero w f = refl
blocks g (suc k) w f =
    let e = length-tabulate w f in
    let rest' = tabulate (k * w) (λ i. f (w + i)) in
    rw (suc-mul, add_comm (k * w) w, tabulate-append w (k * w) f, take_at (tabulate w f) rest' w e, drop_at (tabulate w f) rest' w e)
    (ap₂ (λ b (l : List Bool). b ∷ l)
    (ap g (tabulate-cong w (λ t l. ap f (rw (mul-zero, zero-add)))))
    (blocks g k w (λ i. f (w + i)) ∙ tabulate-cong k (λ j l. ap g (tabulate-cong w (λ t l. ap f (rw mul-suc (omega arith)))))))

-- A whole row has the row's length.
row-length : (n k r : ℕ) (u : List Bool) → length u ≡ k * n → r < k → length (take n (drop (n * r) u)) ≡ n
row-length n k r u e l = simp (length-take, length-drop) (omega (arith, mul-le-mul_left n l, mul-suc n r, mul_comm k n))

module _ (A B B' : Code) (b : UndoneBy B B') (u : List Bool) where
  -- The outer words undone are the inner words.
  outer-undone : (r : ℕ) → r < B.size
      → column B' (rows B.places A.places (tabulate (A.places * B.places) ((staged A B).word u))) r
      ≡ tabulate A.places (A.word (take A.size (drop (A.size * r) u)))
  outer-undone r l =
      blocks (λ v. B'.word v r) A.places B.places ((staged A B).word u)
      ∙ tabulate-cong A.places (λ j _.
      let c = column A (rows A.size B.size u) j in
      ap (λ v. B'.word v r) (tabulate-cong B.places (λ t h. ap₂ (λ q d. B.word (column A (rows A.size B.size u) q) d) (quot _ j t h) (rest _ j t h)))
      ∙ b.undo c (rw (length-map, length-rows)) r l
      ∙ column-at A A.size B.size u j r l)

-- The stages of the undoing codes, inner and outer exchanged, undo both stages.
pub staged-undo : (A B A' B' : Code) → UndoneBy A A' → UndoneBy B B' → UndoneBy (staged A B) (staged B' A')
staged-undo A B A' B' a b = record {
  back = ap₂ ◌*◌ a.back b.back;
  there = ap₂ ◌*◌ b.there a.there;
  undo = λ u e i l.
      let pos : 0 < A.size = pos-right i B.size A.size l in
      let r : ℕ = i / A.size in
      let s : ℕ = i % A.size in
      let lr : r < B.size = (div-lt_iff_lt-mul pos).1 l in
      let ls : s < A.size = mod-lt i pos in
      let v = take A.size (drop (A.size * r) u) in
      rw (a.back, b.back, a.there)
      (ap (λ c. A'.word c s) (outer-undone A B B' b u r lr)
      ∙ a.undo v (row-length A.size B.size r u e lr) s ls
      ∙ get_or-take A.size (drop (A.size * r) u) s false ls ∙ get_or-drop (A.size * r) u s false ∙ ap (bit u) (div-add-mod i A.size));
}

-- A code with another that it undoes is onto.
pub undo-onto : (C D : Code) → UndoneBy D C → Onto C
undo-onto C D h x =
    let v = tabulate D.size x in (
      tabulate D.places (D.word v),
      length-tabulate D.places (D.word v) ∙ sym h.back,
      λ i l. let li : i < D.size = rw (← h.there) l in h.undo v (length-tabulate D.size x) i li ∙ tabulate-at D.size x i false li,
    )

-- A code with the one that undoes it, both ways.
pub record Coder : Type 0 where
  pub enc : Code
  pub dec : Code
  pub undo : UndoneBy enc dec
  pub redo : UndoneBy dec enc

pub coder-onto : (C : Coder) → Onto C.enc
coder-onto C = undo-onto C.enc C.dec C.redo

-- Two stages of such codes make one again.
abbrev pub layered : Coder → Coder → Coder
layered A B = record {
  enc = staged A.enc B.enc;
  dec = staged B.dec A.dec;
  undo = staged-undo A.enc B.enc A.dec B.dec A.undo B.undo;
  redo = staged-undo B.dec A.dec B.enc A.enc B.redo A.redo;
}

-- ---- the symbols of a word

-- There are as many as the code has.
pub length-symbols-in : (C : Code) (c : List Bool) → length (symbols_in C c) ≡ C.size
unfolding symbols_in
length-symbols-in C c = length-find C.size _

-- What C makes, D makes undone.
pub undone-list : (C D : Code) → UndoneBy C D → (u : List Bool) → length u ≡ C.size → tabulate D.places (D.word (tabulate C.places (C.word u))) ≡ u
undone-list C D f u e =
    same_bits C.size (tabulate D.places (D.word (tabulate C.places (C.word u)))) u (length-tabulate D.places _ ∙ f.there) e
    (λ i l. tabulate-at D.places _ i false (rw f.there l) ∙ f.undo u e i l)

module _ (C D : Code) (f : UndoneBy C D) (g : UndoneBy D C) where
  -- Where C and D undo one another, the symbols of a word are those that D makes of it.
  pub symbols-are : (c : List Bool) → length c ≡ C.places → symbols_in C c ≡ tabulate D.places (D.word c)
  unfolding symbols_in
  symbols-are c e =
      find-only C.size (λ u. same (tabulate C.places (C.word u)) c) (tabulate D.places (D.word c)) (length-tabulate D.places _ ∙ f.there)
      (ap (λ w. same w c) (undone-list D C g c (e ∙ sym f.back)) ∙ same_self c)
      (λ u eu t. sym (undone-list C D f u eu) ∙ ap (λ w. tabulate D.places (D.word w)) (same-eq (tabulate C.places (C.word u)) c t))

  -- Undo of encode,
  pub symbols-of-word : (u : List Bool) → length u ≡ C.size → symbols_in C (tabulate C.places (C.word u)) ≡ u
  symbols-of-word u e = symbols-are (tabulate C.places (C.word u)) (length-tabulate C.places _) ∙ undone-list C D f u e

  -- and encode of undo.
  pub word-of-symbols : (c : List Bool) → length c ≡ C.places → tabulate C.places (C.word (symbols_in C c)) ≡ c
  word-of-symbols c e = ap (λ u. tabulate C.places (C.word u)) (symbols-are c e) ∙ undone-list D C g c (e ∙ sym f.back)
