-- Scores and symbols of phases, put together. Assumes nothing.
use mathlib.Core.Path.{◌≡◌, refl, sym, ap₂, ◌∙◌}
use mathlib.Core.Bool.{Bool}
use mathlib.Core.List.{List, [], ◌∷◌}
use Prim.Native.Nat.{ℕ, ◌+◌, ◌<◌}
use native.Mathlib.Omega.{arith}
use lib.IntN.{ℤ, pos}
use lib.ListN.{length, get_or}
use Rattle.base.specs.Bit.{bit, tabulate}
use Rattle.base.proofs.List.{length-tabulate}
use Rattle.run.specs.Run.{symbol_by}
use Rattle.quarters.specs.Part.{Follows}
use Rattle.quarters.proofs.Index.{below-4, below-16}

-- A symbol at another way to write its phase, by another way to write its score.
moved : (fre giv : ℕ → Bool) (b : Bool) (i j : ℕ) (s t : ℤ) → b ≡ symbol_by (fre i) (giv i) s → i ≡ j → s ≡ t → b ≡ symbol_by (fre j) (giv j) t
moved fre giv b i j s t h e f = h ∙ ap₂ (λ i s. symbol_by (fre i) (giv i) s) e f

-- Four times four phases.
pub four-fours : (sc : List Bool → ℤ) (fre giv : ℕ → Bool) (a b c d : List ℤ) (w x y z : List Bool)
    → Follows sc fre giv 4 a w
    → Follows (λ p. sc (bit w 0 ∷ bit w 1 ∷ bit w 2 ∷ bit w 3 ∷ p)) (λ i. fre (4 + i)) (λ i. giv (4 + i)) 4 b x
    → Follows (λ p. sc (bit w 0 ∷ bit w 1 ∷ bit w 2 ∷ bit w 3 ∷ bit x 0 ∷ bit x 1 ∷ bit x 2 ∷ bit x 3 ∷ p)) (λ i. fre (8 + i)) (λ i. giv (8 + i)) 4 c y
    → Follows (λ p. sc (bit w 0 ∷ bit w 1 ∷ bit w 2 ∷ bit w 3 ∷ bit x 0 ∷ bit x 1 ∷ bit x 2 ∷ bit x 3 ∷ bit y 0 ∷ bit y 1 ∷ bit y 2 ∷ bit y 3 ∷ p)) (λ i. fre (12 + i)) (λ i. giv (12 + i)) 4 d z
    → Follows sc fre giv 16 (get_or a 0 (pos 0) ∷ get_or a 1 (pos 0) ∷ get_or a 2 (pos 0) ∷ get_or a 3 (pos 0) ∷ get_or b 0 (pos 0) ∷ get_or b 1 (pos 0) ∷ get_or b 2 (pos 0) ∷ get_or b 3 (pos 0) ∷ get_or c 0 (pos 0) ∷ get_or c 1 (pos 0) ∷ get_or c 2 (pos 0) ∷ get_or c 3 (pos 0) ∷ get_or d 0 (pos 0) ∷ get_or d 1 (pos 0) ∷ get_or d 2 (pos 0) ∷ get_or d 3 (pos 0) ∷ [])
    (bit w 0 ∷ bit w 1 ∷ bit w 2 ∷ bit w 3 ∷ bit x 0 ∷ bit x 1 ∷ bit x 2 ∷ bit x 3 ∷ bit y 0 ∷ bit y 1 ∷ bit y 2 ∷ bit y 3 ∷ bit z 0 ∷ bit z 1 ∷ bit z 2 ∷ bit z 3 ∷ [])
unfolding tabulate
four-fours sc fre giv a b c d w x y z ha hb hc hd =
    record {
      score-at = below-16 _
          (ha.score-at 0 (omega arith)) (ha.score-at 1 (omega arith)) (ha.score-at 2 (omega arith)) (ha.score-at 3 (omega arith))
          (hb.score-at 0 (omega arith)) (hb.score-at 1 (omega arith)) (hb.score-at 2 (omega arith)) (hb.score-at 3 (omega arith))
          (hc.score-at 0 (omega arith)) (hc.score-at 1 (omega arith)) (hc.score-at 2 (omega arith)) (hc.score-at 3 (omega arith))
          (hd.score-at 0 (omega arith)) (hd.score-at 1 (omega arith)) (hd.score-at 2 (omega arith)) (hd.score-at 3 (omega arith));
      symbol-at = below-16 _
          (ha.symbol-at 0 (omega arith)) (ha.symbol-at 1 (omega arith)) (ha.symbol-at 2 (omega arith)) (ha.symbol-at 3 (omega arith))
          (hb.symbol-at 0 (omega arith)) (hb.symbol-at 1 (omega arith)) (hb.symbol-at 2 (omega arith)) (hb.symbol-at 3 (omega arith))
          (hc.symbol-at 0 (omega arith)) (hc.symbol-at 1 (omega arith)) (hc.symbol-at 2 (omega arith)) (hc.symbol-at 3 (omega arith))
          (hd.symbol-at 0 (omega arith)) (hd.symbol-at 1 (omega arith)) (hd.symbol-at 2 (omega arith)) (hd.symbol-at 3 (omega arith));
    }

-- The same phases by another way to write their scores and sources.
pub follows-as : (sc sc' : List Bool → ℤ) (f f' g g' : ℕ → Bool) (n : ℕ) (xs : List ℤ) (us : List Bool)
    → ((p : List Bool) → length p < n → sc p ≡ sc' p) → ((i : ℕ) → f i ≡ f' i) → ((i : ℕ) → g i ≡ g' i)
    → Follows sc f g n xs us → Follows sc' f' g' n xs us
follows-as sc sc' f f' g g' n xs us same ef eg h =
    record {
      score-at = λ i l. h.score-at i l ∙ same (tabulate i (bit us)) (rw (length-tabulate i (bit us)) l);
      symbol-at = λ i l. h.symbol-at i l ∙ ap₂ (λ a b. symbol_by a b (get_or xs i (pos 0))) (ef i) (eg i);
    }

-- One phase and three after it, as arrays that are read,
pub one-three : (sc : List Bool → ℤ) (f g : ℕ → Bool) (s r : ℤ) (first : Bool) (a b c : ℤ) (scores : List ℤ) (symbols : List Bool)
    → r ≡ s → a ≡ get_or scores 0 (pos 0) → b ≡ get_or scores 1 (pos 0) → c ≡ get_or scores 2 (pos 0)
    → s ≡ sc [] → first ≡ symbol_by (f 0) (g 0) s → Follows (λ p. sc (first ∷ p)) (λ i. f (1 + i)) (λ i. g (1 + i)) 3 scores symbols
    → Follows sc f g 4 (r ∷ a ∷ b ∷ c ∷ []) (first ∷ bit symbols 0 ∷ bit symbols 1 ∷ bit symbols 2 ∷ [])
unfolding tabulate
one-three sc f g s r first a b c scores symbols er ea eb ec es ef h =
    record {
      score-at = below-4 _ (er ∙ es) (ea ∙ h.score-at 0 (omega arith)) (eb ∙ h.score-at 1 (omega arith)) (ec ∙ h.score-at 2 (omega arith));
      symbol-at =
          below-4 _
          (moved f g first 0 0 s r ef refl (sym er))
          (moved f g (bit symbols 0) 1 1 _ a (h.symbol-at 0 (omega arith)) refl (sym ea))
          (moved f g (bit symbols 1) 2 2 _ b (h.symbol-at 1 (omega arith)) refl (sym eb))
          (moved f g (bit symbols 2) 3 3 _ c (h.symbol-at 2 (omega arith)) refl (sym ec));
    }

-- and three phases and one.
pub three-one : (sc : List Bool → ℤ) (f g : ℕ → Bool) (s r : ℤ) (last : Bool) (a b c : ℤ) (scores : List ℤ) (symbols : List Bool)
    → r ≡ s → a ≡ get_or scores 0 (pos 0) → b ≡ get_or scores 1 (pos 0) → c ≡ get_or scores 2 (pos 0)
    → Follows sc f g 3 scores symbols → s ≡ sc (bit symbols 0 ∷ bit symbols 1 ∷ bit symbols 2 ∷ []) → last ≡ symbol_by (f 3) (g 3) s
    → Follows sc f g 4 (a ∷ b ∷ c ∷ r ∷ []) (bit symbols 0 ∷ bit symbols 1 ∷ bit symbols 2 ∷ last ∷ [])
unfolding tabulate
three-one sc f g s r last a b c scores symbols er ea eb ec h es el =
    record {
      score-at = below-4 _ (ea ∙ h.score-at 0 (omega arith)) (eb ∙ h.score-at 1 (omega arith)) (ec ∙ h.score-at 2 (omega arith)) (er ∙ es);
      symbol-at =
          below-4 _
          (moved f g (bit symbols 0) 0 0 _ a (h.symbol-at 0 (omega arith)) refl (sym ea))
          (moved f g (bit symbols 1) 1 1 _ b (h.symbol-at 1 (omega arith)) refl (sym eb))
          (moved f g (bit symbols 2) 2 2 _ c (h.symbol-at 2 (omega arith)) refl (sym ec))
          (moved f g last 3 3 s r el refl (sym er));
    }
