-- Groups stepped one after the other. Assumes nothing.
use mathlib.Core.Path.{◌≡◌, refl, ap, ap₂, ◌∙◌}
use mathlib.Core.List.{List, []}
use Prim.Native.Nat.{ℕ, ◌+◌, ◌-◌, ◌*◌, ◌/◌, ◌%◌, ◌≤◌, ◌<◌}
use native.Mathlib.Decide.{dec_lt}
use native.Mathlib.Omega.{arith}
use lib.IntN.{ℤ, pos}
use lib.ListN.{length, get_or, set, length-set}
use lib.Seq.{paste, length-paste, get_or-set_same, get_or-set_other}
use Rattle.base.proofs.List.{each_next}
use Rattle.polar.specs.Code.{score}
use Rattle.kernel.specs.Kernels.{kernel_code}
use Rattle.lane.specs.Lanes.{lane_costs}
use Rattle.lane_phases.specs.Rows.{column as lane_column, HeldLanes}
use Rattle.layer_turns.proofs.Pasted.{paste-before, paste-within}
use Rattle.triple_run.specs.Groups.{Room, own_symbols, ScoresOf}

module _ (k : ℕ) (costs : List (List (List (List ℕ)))) (planes : List (List ℕ)) (r : ℕ) (rows₀ : List (List (List (List ℕ)))) where
  -- The groups below g are stepped, and the others have the rows that they had.
  pub record Stepped (g : ℕ) (rows : List (List (List (List ℕ)))) (out : List ℤ) : Type 0 where
    pub long : length out ≡ 256
    pub room : Room rows
    pub held : (i : ℕ) → i < g → HeldLanes k (get_or costs i []) (get_or planes i []) r (get_or rows i [])
    pub later : (i : ℕ) → g ≤ i → get_or rows i [] ≡ get_or rows₀ i []
    pub scored : ScoresOf k costs planes r (16 * g) out

  pub stepped-none : (out : List ℤ) → Room rows₀ → length out ≡ 256 → Stepped 0 rows₀ out
  stepped-none out room l = record { long = l; room = room; held = λ i h. absurd (omega arith); later = λ i _. refl; scored = λ j h. absurd (omega arith) }

  module _ (g : ℕ) (lg : g < 16) (rows : List (List (List (List ℕ)))) (out : List ℤ) (s : Stepped g rows out)
      (next : List (List (List ℕ))) (found : List ℤ) (long : length next ≡ 16) (held : HeldLanes k (get_or costs g []) (get_or planes g []) r next)
      (lf : length found ≡ 16) (is : (l : ℕ) → l < 16 → get_or found l (pos 0) ≡ score (kernel_code k) (lane_costs (get_or costs g []) l) (lane_column (get_or planes g []) r l)) where
    score-next : ScoresOf k costs planes r (16 * (g + 1)) (paste out (16 * g) found 16)
    score-next j l = go (dec_lt j (16 * g))
      where
        go : Dec (j < 16 * g) → get_or (paste out (16 * g) found 16) j (pos 0) ≡ score (kernel_code k) (lane_costs (get_or costs (j / 16) []) (j % 16)) (own_symbols planes r j)
        go (yes h) = paste-before out found (16 * g) 16 (pos 0) (omega (arith, s.long)) (omega arith) j h ∙ s.scored j h
        go (no h) =
            let i : ℕ = j - 16 * g in
            let e : j ≡ 16 * g + i = omega arith in
            let q : g ≡ j / 16 = omega arith in
            let d : i ≡ j % 16 = omega arith in
            ap (λ n. get_or (paste out (16 * g) found 16) n (pos 0)) e
            ∙ paste-within out found (16 * g) 16 (pos 0) (omega (arith, s.long)) (omega arith) i (omega arith)
            ∙ is i (omega arith)
            ∙ ap₂ (λ a b. score (kernel_code k) (lane_costs (get_or costs a []) b) (lane_column (get_or planes a []) r b)) q d

    pub stepped-next : (out' : List ℤ) → out' ≡ paste out (16 * g) found 16 → Stepped (g + 1) (set rows g next) out'
    stepped-next out' e = record {
      long = ap length e ∙ length-paste out (16 * g) found 16 (omega (arith, s.long)) (omega arith) ∙ s.long;
      room = (length-set rows g next ∙ s.room.0, rooms);
      held = each_next (λ i x. HeldLanes k (get_or costs i []) (get_or planes i []) r x) rows g [] next (omega (arith, s.room.0)) s.held held;
      later = λ i l. get_or-set_other rows g i next [] (λ q. omega arith) ∙ s.later i (omega arith);
      scored = rw e score-next;
    }
      where
        rooms : (i : ℕ) → i < 16 → length (get_or (set rows g next) i []) ≡ 16
        rooms i l = go (dec_lt i g) (dec_lt g i)
          where
            go : Dec (i < g) → Dec (g < i) → length (get_or (set rows g next) i []) ≡ 16
            go (yes h) _ = rw (get_or-set_other rows g i next [] (λ q. omega arith)) (s.room.1 i l)
            go (no h) (yes h') = rw (get_or-set_other rows g i next [] (λ q. omega arith)) (s.room.1 i l)
            go (no h) (no h') = let q : i ≡ g = omega arith in rw (q, get_or-set_same rows g next [] (omega (arith, s.room.0))) long
