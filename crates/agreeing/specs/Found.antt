-- Proof side: what the search through the records finds, and what is handed out for it. Assumes nothing.
use Rattle.std.specs.Prelude.{◌≡◌, Bool, false, ◌||◌, List, ◌++◌, ℕ, ◌/◌, ◌≤◌, ◌<◌, eqb, ltb, drop, true, Option, MatchOption}
use Rattle.bits.specs.Packed.{unpack}
use Rattle.answer.specs.Verdict.{Verdict, penalty, refused}
use Rattle.mask.specs.Mask.{marked}
use Rattle.path.specs.Path.{path_at}
use Rattle.list.specs.Best.{IsBestAt}
use Rattle.agreeing.specs.Agreeing.{payload_of, agrees_at}

-- The symbols of record i.
abbrev pub symbols_at : List ℕ → ℕ → List Bool
symbols_at scratch i = unpack (path_at i scratch).symbols

-- Whether the checksum of record i agrees, and its penalty.
abbrev pub record_agrees : List ℕ → List ℕ → ℕ → Bool
record_agrees mask scratch i = agrees_at mask (symbols_at scratch i)

abbrev pub record_penalty : List ℕ → ℕ → ℕ
record_penalty scratch i = (path_at i scratch).penalty

-- Whether the penalty of record i is lower than that of record r, the best before it, or there is none before it: r is then n.
abbrev pub is_lower : List ℕ → ℕ → ℕ → ℕ → Bool
is_lower scratch n r i = eqb r n || ltb (record_penalty scratch i) (record_penalty scratch r)

-- r is the best agreeing one of the first i records, or n where none of them agrees.
pub record BestRecord (mask scratch : List ℕ) (n i r : ℕ) : Type 0 where
  pub within : r ≤ n
  pub found : r < n → IsBestAt (record_agrees mask scratch) (record_penalty scratch) i r
  pub none : n ≤ r → (j : ℕ) → j < i → record_agrees mask scratch j ≡ false

-- Record i of n is handed out: its penalty, and its payload before what lies past it; or none.
pub record HandedOut (mask scratch : List ℕ) (i n : ℕ) (old : List ℕ) (v : Verdict) (new : List ℕ) : Type 0 where
  pub some : i < n → (v ≡ penalty (path_at i scratch).penalty) × (new ≡ payload_of mask (symbols_at scratch i) ++ drop (marked mask / 8) old)
  pub no : n ≤ i → (v ≡ refused 13 0) × (new ≡ old)

-- Whether the penalty of record i is lower than that of the best before it, if there is one.
abbrev pub Lower : List ℕ → ℕ → Option ℕ → Bool → Type 0
Lower scratch i best low = MatchOption best (low ≡ true) (λ r. low ≡ ltb (record_penalty scratch i) (record_penalty scratch r))

-- The best agreeing one of the first i of n records, if one agrees.
abbrev pub BestFound : List ℕ → List ℕ → ℕ → ℕ → Option ℕ → Type 0
BestFound mask scratch n i best = MatchOption best (BestRecord mask scratch n i n) (λ r. (r < n) × BestRecord mask scratch n i r)

-- The record that was found is handed out, or none. Records are numbered below 8.
abbrev pub FoundHandedOut : List ℕ → List ℕ → Option ℕ → List ℕ → Verdict → List ℕ → Type 0
FoundHandedOut mask scratch found old v new = MatchOption found (HandedOut mask scratch 8 8 old v new) (λ i. HandedOut mask scratch i 8 old v new)
