-- Words put into planes, lane after lane. Assumes nothing.
use mathlib.Core.Path.{◌≡◌, refl, ap, ap₂, ◌∙◌}
use mathlib.Core.Bool.{false, ◌&&◌, and-true, and-false}
use mathlib.Core.List.{List}
use Prim.Native.Nat.{ℕ, ◌+◌, ◌≤◌, ◌<◌}
use native.Mathlib.Decide.{dec_lt}
use native.Mathlib.Omega.{arith}
use borrow.Author.Tests.{eq-eqb, ne_eqb}
use lib.ListN.{get_or, replicate, get_or-replicate}
use Rattle.base.specs.Bit.{◌⊕◌}
use Rattle.base.proofs.Bool.{⊕-false}
use Rattle.bits.proofs.Packed.{zero-at}
use Rattle.lane.specs.Lanes.{lane_bits, lane_bit, word_at}
use Rattle.lane.proofs.Planes.{one_bit}

-- The planes have the words of the first n lanes, and nothing in the others.
pub record Planed (words : List ℕ) (n : ℕ) (planes : List ℕ) : Type 0 where
  pub done : (s l : ℕ) → s < 16 → l < n → word_at planes l s ≡ lane_bit (get_or words l 0) s
  pub rest : (s l : ℕ) → s < 16 → n ≤ l → l < 16 → word_at planes l s ≡ false

pub planed-none : (words : List ℕ) → Planed words 0 (replicate 16 0)
planed-none words =
    record {
      done = λ s l ls ll. absurd (omega arith);
      rest = λ s l ls _ _. ap (λ x. lane_bit x l) (get_or-replicate 16 s 0 0 ls) ∙ zero-at 16 l;
    }

-- One lane more: its word is added with the lane's bit for a plane.
pub planed-next : (words planes next : List ℕ) (n flag : ℕ) → n < 16 → flag ≡ get_or lane_bits n 0 → Planed words n planes
    → ((s l : ℕ) → s < 16 → word_at next l s ≡ word_at planes l s ⊕ (lane_bit (get_or words n 0) s && lane_bit flag l)) → Planed words (n + 1) next
planed-next words planes next n flag ln ef p h =
    record {
      done = λ s l ls ll. go s l ls ll (dec_lt l n);
      rest = λ s l ls nl ll. away s l ls ll (λ e. omega arith) ∙ p.rest s l ls (omega arith) ll;
    }
  where
    away : (s l : ℕ) → s < 16 → l < 16 → (l ≡ n → ⊥) → word_at next l s ≡ word_at planes l s
    away s l ls ll d =
        h s l ls
        ∙ ap (λ c. word_at planes l s ⊕ (lane_bit (get_or words n 0) s && c)) (ap (λ f. lane_bit f l) ef ∙ one_bit n l ln ll ∙ ne_eqb l n d)
        ∙ ap (λ c. word_at planes l s ⊕ c) (and-false (lane_bit (get_or words n 0) s))
        ∙ ⊕-false (word_at planes l s)

    here : (s : ℕ) → s < 16 → word_at next n s ≡ lane_bit (get_or words n 0) s
    here s ls =
        h s n ls
        ∙ ap₂ (λ a c. a ⊕ (lane_bit (get_or words n 0) s && c)) (p.rest s n ls (omega arith) ln) (ap (λ f. lane_bit f n) ef ∙ one_bit n n ln ln ∙ eq-eqb n n refl)
        ∙ and-true (lane_bit (get_or words n 0) s)

    go : (s l : ℕ) → s < 16 → l < n + 1 → Dec (l < n) → word_at next l s ≡ lane_bit (get_or words l 0) s
    go s l ls ll (yes m) = away s l ls (omega arith) (λ e. omega arith) ∙ p.done s l ls m
    go s l ls ll (no m) = let e : l ≡ n = omega arith in rw e (here s ls)
