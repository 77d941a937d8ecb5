-- The scores and penalties of a whole list of symbols are exact at every phase, and nothing else is. Assumes nothing.
use mathlib.Core.Path.{◌≡◌, sym, ap, ◌∙◌}
use mathlib.Core.Bool.{Bool, true, false}
use mathlib.Core.List.{List, [], ◌∷◌, ◌++◌}
use Prim.Native.Nat.{ℕ, suc, ◌<◌}
use native.Mathlib.Nat.{le_antisymm}
use native.Mathlib.Omega.{arith}
use lib.ListN.{length, get_or, take, length-append}
use lib.Seq.{length-take-le}
use lib.IntN.{ℤ}
use Rattle.base.specs.Bit.{bit}
use Rattle.polar.specs.Code.{Code, Costs, least, best_score, score}
use Rattle.polar.specs.Follow.{scores, penalties, choose, decode}
use Rattle.polar.specs.Exact.{ExactScore, ExactPenalty, IsSign}
use Rattle.polar.proofs.Least.{least-le, least_at, best-is, score-best}
use Rattle.polar.proofs.Follow.{scores-at, penalties-at, choose-zero, choose_one, length-decode, decode-at}

module _ (C : Code) (m : Costs) (u : List Bool) (i : ℕ) (e : length u ≡ C.size) (l : i < C.size) where
  front : length (take i u) ≡ i
  front = length-take-le i u (omega arith)

  one_more : (b : Bool) → length (take i u ++ (b ∷ [])) ≡ suc i
  one_more b = omega (arith, length-append (take i u) (b ∷ []), front)

  -- The score of each phase is exact,
  pub score-exact : (d : ℤ) → ExactScore C m u i (get_or (scores C m u) i d)
  unfolding score
  score-exact d =
      record {
        x0 = best_score C m (take i u ++ (false ∷ []));
        x1 = best_score C m (take i u ++ (true ∷ []));
        best0 = best-is C m (take i u ++ (false ∷ [])) (omega (arith, one_more false));
        best1 = best-is C m (take i u ++ (true ∷ [])) (omega (arith, one_more true));
        less = scores-at C m u i d (omega arith);
      }

  -- and no other number is.
  pub score-only : (x : ℤ) → ExactScore C m u i x → x ≡ score C m (take i u)
  score-only x h = h.less ∙ sym (score-best C m (take i u) h.x0 h.x1 (omega (arith, front)) h.best0 h.best1)

  counted : length (take (suc i) u) ≡ suc i
  counted = length-take-le (suc i) u (omega arith)

  -- The penalty of each phase is exact,
  pub penalty-exact : (d : ℕ) → ExactPenalty C m u i (get_or (penalties C m u) i d)
  penalty-exact d =
      let p = take (suc i) u in
      let n : get_or (penalties C m u) i d ≡ least C m p = penalties-at C m u i d (omega arith) in
      let a = least_at C m p (omega (arith, counted)) in
      record { paid = (a.0, a.1, a.2 ∙ sym n); no_less = λ t q. rw n (least-le C m p t q) }

  -- and no other number is.
  pub penalty-only : (n : ℕ) → ExactPenalty C m u i n → n ≡ least C m (take (suc i) u)
  penalty-only n h =
      let p = take (suc i) u in
      let a = least_at C m p (omega (arith, counted)) in
      let t = h.paid in
      le_antisymm (rw a.2 at (h.no_less a.0 a.1)) (rw t.2 at (least-le C m p t.0 t.1))

-- ---- the decoder's symbols

-- At a marked phase the symbol is the sign of the score,
choose-sign : (c : Bool) (x : ℤ) → c ≡ true → IsSign x (choose c x)
choose-sign c x e = record { is_zero = λ h. ap (λ c. choose c x) e ∙ choose-zero x h; is_one = λ h. ap (λ c. choose c x) e ∙ choose_one x h }

module _ (C : Code) (m : Costs) (mask : ℕ → Bool) (i : ℕ) (l : i < C.size) where
  pub marked-sign : (d : ℤ) → mask i ≡ true → IsSign (get_or (scores C m (decode C m mask)) i d) (bit (decode C m mask) i)
  marked-sign d e =
      let u = decode C m mask in
      rw (scores-at C m u i d (omega (arith, length-decode C m mask)), decode-at C m mask i l) (choose-sign (mask i) (score C m (take i u)) e)

  -- and at any other it is 0.
  pub unmarked-zero : mask i ≡ false → bit (decode C m mask) i ≡ false
  unmarked-zero e = decode-at C m mask i l ∙ ap (λ c. choose c (score C m (take i (decode C m mask)))) e
