-- A verdict is accepted exactly if no listed check holds, else it is the first that holds. Assumes nothing.
use mathlib.Core.Path.{◌≡◌, refl, sym, ap, ◌∙◌}
use mathlib.Core.Bool.{Bool, true, false, false≢true}
use mathlib.Core.List.{List, [], ◌∷◌, ◌++◌}
use lib.ListN.{length, drop}
use Rattle.answer.specs.Verdict.{Verdict, done, word, penalty, refused, is_accepted, Check, unless, settle, after}

-- None of the checks holds.
abbrev pub None : List Check → Type 0
None [] = Unit {0}
None (c ∷ cs) = (c.holds ≡ false) × None cs

-- The verdict r is v and none of the checks holds, or it is the refusal of the first that holds.
pub data Settled (v : Verdict) : List Check → Verdict → Type 0 where
  passed : {cs : List Check} → None cs → Settled v cs v
  stopped : (before : List Check) (c : Check) (later : List Check) → None before → c.holds ≡ true
      → Settled v (before ++ (c ∷ later)) (refused c.number c.place)

one_more : (v : Verdict) (c : Check) (cs : List Check) (r : Verdict) → c.holds ≡ false → Settled v cs r → Settled v (c ∷ cs) r
one_more v c cs r e (passed n) = passed {cs = c ∷ cs} (e, n)
one_more v c cs r e (stopped before d later n h) = stopped (c ∷ before) d later (e, n) h

pub settle-first : (cs : List Check) (v : Verdict) → Settled v cs (settle cs v)
settle-first [] v = passed tt
settle-first (c ∷ cs) v = go c.holds refl (settle-first cs v)
  where
    go : (b : Bool) → c.holds ≡ b → Settled v cs (settle cs v) → Settled v (c ∷ cs) (elim b [ true ↦ refused c.number c.place | false ↦ settle cs v ])
    go true e ih = stopped [] c cs tt e
    go false e ih = one_more v c cs (settle cs v) e ih

-- Where no check holds the job answers v,
pub settle-none : (cs : List Check) (v : Verdict) → None cs → settle cs v ≡ v
settle-none [] v n = refl
settle-none (c ∷ cs) v n = rw n.0 (settle-none cs v n.1)

-- and an accepted verdict shows that none holds.
pub none_of : (cs : List Check) (v : Verdict) → is_accepted (settle cs v) ≡ true → None cs
none_of [] v a = tt
none_of (c ∷ cs) v a = go c.holds refl a (none_of cs v)
  where
    go : (b : Bool) → c.holds ≡ b → is_accepted (elim b [ true ↦ refused c.number c.place | false ↦ settle cs v ]) ≡ true
        → (is_accepted (settle cs v) ≡ true → None cs) → None (c ∷ cs)
    go true e a ih = absurd (false≢true a)
    go false e a ih = (e, ih a)

-- Checks after checks.
pub settle-append : (cs ds : List Check) (v : Verdict) → settle (cs ++ ds) v ≡ settle cs (settle ds v)
settle-append [] ds v = refl
settle-append (c ∷ cs) ds v = ap (unless c) (settle-append cs ds v)

-- Where some check holds, it does not matter what would be answered without.
pub settle-stopped : (cs : List Check) (v w : Verdict) → is_accepted v ≡ true → is_accepted (settle cs v) ≡ false → settle cs w ≡ settle cs v
settle-stopped [] v w a r = absurd (false≢true (sym r ∙ a))
settle-stopped (c ∷ cs) v w a r = go c.holds r (settle-stopped cs v w a)
  where
    go : (b : Bool) → is_accepted (elim b [ true ↦ refused c.number c.place | false ↦ settle cs v ]) ≡ false
        → (is_accepted (settle cs v) ≡ false → settle cs w ≡ settle cs v)
        → ◌≡◌ {A = Verdict} (elim b [ true ↦ refused c.number c.place | false ↦ settle cs w ]) (elim b [ true ↦ refused c.number c.place | false ↦ settle cs v ])
    go true r ih = refl
    go false r ih = ih r

-- A refusal leaves every buffer as it was.
pub after-refused {ℓ} : {X : Type ℓ} (v : Verdict) (old new : List X) → is_accepted v ≡ false → after v old new ≡ old
after-refused done old new e = absurd (false≢true (sym e))
after-refused (word w) old new e = absurd (false≢true (sym e))
after-refused (penalty p) old new e = absurd (false≢true (sym e))
after-refused (refused n i) old new e = refl

-- An acceptance leaves the new part, and what lies past it.
pub after-accepted {ℓ} : {X : Type ℓ} (v : Verdict) (old new : List X) → is_accepted v ≡ true → after v old new ≡ new ++ drop (length new) old
after-accepted done old new e = refl
after-accepted (word w) old new e = refl
after-accepted (penalty p) old new e = refl
after-accepted (refused n i) old new e = absurd (false≢true e)
