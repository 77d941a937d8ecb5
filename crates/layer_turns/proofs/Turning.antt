-- One row more: the inner code runs over the outer scores as its channel values, and its word goes to the outer words. For any two
-- codes, the inner one onto. Assumes nothing.
use mathlib.Core.Path.{◌≡◌, refl, sym, ap, ap₂, ◌∙◌}
use mathlib.Core.Bool.{Bool, false}
use mathlib.Core.List.{List, [], ◌∷◌, ◌++◌}
use Prim.Native.Nat.{ℕ, suc, ◌+◌, ◌-◌, ◌*◌, ◌<◌}
use native.Mathlib.Nat.{suc-mul, zero-mul}
use native.Mathlib.Decide.{dec_lt}
use native.Mathlib.Omega.{arith}
use lib.IntN.{ℤ}
use lib.ListN.{length, take, length-append, get_or-append}
use lib.Seq.{take-append-le, take-append-add, get_or-append-add, length-take-le}
use Rattle.base.specs.Bit.{bit, tabulate}
use Rattle.base.proofs.List.{tabulate-cong, tabulate-append}
use Rattle.polar.specs.Code.{Code, Costs, pay, score, Onto}
use Rattle.polar.specs.Follow.{scores}
use Rattle.polar.specs.Stages.{rows, staged, block}
use Rattle.polar.proofs.Layer.{column-next}
use Rattle.polar.proofs.Values.{layer-scores}
use Rattle.run.specs.Run.{symbol_by, SymbolsBy}
use Rattle.run.proofs.Phases.{score-cong}
use Rattle.layer_turns.specs.Turned.{Ran, Turned}

-- Scores of a list with a part more.
pub scores-more : (C : Code) (m : Costs) (u p : List Bool) → scores C m (u ++ p) ≡ scores C m u ++ tabulate (length p) (λ i. score C m (u ++ take i p))
unfolding scores
scores-more C m u p =
    ap (λ n. tabulate n (λ i. score C m (take i (u ++ p)))) (length-append u p)
    ∙ tabulate-append (length u) (length p) (λ i. score C m (take i (u ++ p)))
    ∙ ap₂ (λ (x y : List ℤ). x ++ y)
    (tabulate-cong (length u) (λ i l. ap (score C m) (take-append-le i u p (omega arith))))
    (tabulate-cong (length p) (λ i l. ap (score C m) (take-append-add u p i)))

-- Before the first row.
pub turned_none : (A B : Code) (c : Costs) (free given : ℕ → Bool) (own : ℕ → List Bool) → ((j : ℕ) → own j ≡ []) → Turned A B c free given 0 [] [] own
unfolding scores rows tabulate
turned_none A B c free given own h = record {
  count = sym (zero-mul A.size);
  symbols-so = λ i l. absurd (omega arith);
  scores-so = refl;
  columns-so = λ j _. h j;
}

module _ (A B : Code) (onto : Onto A) (c : Costs) (free given : ℕ → Bool)
    (r : ℕ) (u : List Bool) (scored : List ℤ) (own : ℕ → List Bool) (g : Turned A B c free given r u scored own) (lr : r < B.size)
    (d : Costs) (is : (j : ℕ) → j < A.places → (b : Bool) → d j b ≡ pay (score B (block B.places c j) (own j)) b)
    (p : List Bool) (sc : List ℤ) (row : Ran A d (λ i. free (r * A.size + i)) (λ i. given (r * A.size + i)) p sc) where
  abbrev C : Code
  C = staged A B

  lp : length p ≡ A.size
  lp = row.long

  -- Scores in the row are the inner code's.
  in_row : (q : List Bool) → length q < A.size → score C c (u ++ q) ≡ score A d q
  in_row q lq =
      layer-scores A B onto c r u q g.count lr lq
      ∙ score-cong A (λ j l b. ap (λ v. pay (score B (block B.places c j) v) b) (sym (g.columns-so j l)) ∙ sym (is j l b)) q

  symbols-next : SymbolsBy C c free given (u ++ p)
  symbols-next i l = go (dec_lt i (length u)) (omega (arith, length-append u p, lp))
    where
      go : Dec (i < length u) → i < length u + A.size → bit (u ++ p) i ≡ symbol_by (free i) (given i) (score C c (take i (u ++ p)))
      go (yes h) _ =
          get_or-append u p false i h ∙ g.symbols-so i h
          ∙ ap (λ v. symbol_by (free i) (given i) (score C c v)) (sym (take-append-le i u p (omega arith)))
      go (no h) t =
          let s : ℕ = i - length u in
          let e : i ≡ length u + s = omega arith in
          let e' : i ≡ r * A.size + s = omega (arith, g.count) in
          let lq : length (take s p) < A.size = omega (arith, length-take-le s p (omega (arith, lp))) in
          ap (bit (u ++ p)) e ∙ get_or-append-add u p s false ∙ row.symbols-by s (omega (arith, lp))
          ∙ ap₂ (λ f h. symbol_by f h (score A d (take s p))) (ap free (sym e')) (ap given (sym e'))
          ∙ ap (symbol_by (free i) (given i)) (sym (in_row (take s p) lq) ∙ ap (score C c) (sym (ap (λ n. take n (u ++ p)) e ∙ take-append-add u p s)))

  scores-next : scored ++ sc ≡ scores C c (u ++ p)
  unfolding scores
  scores-next =
      sym (scores-more C c u p
      ∙ ap₂ (λ (x y : List ℤ). x ++ y) (sym g.scores-so)
      (tabulate-cong (length p) (λ i l. in_row (take i p) (omega (arith, lp, length-take-le i p (omega arith)))) ∙ sym row.scores-are))

  pub turned-next : (own' : ℕ → List Bool) (w : ℕ → Bool) → ((j : ℕ) → j < A.places → own' j ≡ own j ++ (w j ∷ [])) → ((j : ℕ) → j < A.places → w j ≡ A.word p j)
      → Turned A B c free given (suc r) (u ++ p) (scored ++ sc) own'
  turned-next own' w more word-is = record {
    count = length-append u p ∙ omega (arith, g.count, lp, suc-mul r A.size);
    symbols-so = symbols-next;
    scores-so = scores-next;
    columns-so = λ j l. more j l ∙ ap₂ (λ v b. v ++ (b ∷ [])) (g.columns-so j l) (word-is j l) ∙ sym (column-next A r u p j g.count lp);
  }

-- After the last row it is a whole run.
pub turned-all : (A B : Code) (c : Costs) (free given : ℕ → Bool) (u : List Bool) (scored : List ℤ) (own : ℕ → List Bool)
    → Turned A B c free given B.size u scored own → Ran (staged A B) c free given u scored
turned-all A B c free given u scored own g = record { long = g.count; symbols-by = g.symbols-so; scores-are = g.scores-so }
