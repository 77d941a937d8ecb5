-- A candidate that is read from a record, and one turn of the loop that freezes the records. Assumes nothing.
use mathlib.Core.Path.{◌≡◌, ap, ◌∙◌}
use mathlib.Core.Logic.{◌≢◌}
use mathlib.Core.Bool.{Bool}
use mathlib.Core.List.{List, [], ◌∷◌, ◌++◌}
use Prim.Native.Nat.{ℕ, ◌+◌, ◌/◌, ◌≤◌, ◌<◌}
use native.Mathlib.Decide.{dec_lt}
use native.Mathlib.Omega.{arith}
use lib.ListN.{length}
use Rattle.base.specs.Bit.{odd}
use Rattle.bits.specs.Packed.{unpack}
use Rattle.path.specs.Path.{HasSymbols, path_at}
use Rattle.path.specs.declared.Path.{Path}
use Rattle.list_phase.specs.Next.{Candidate, Frozen}

-- A path that is read from a record, with a symbol and then a penalty, is a candidate.
pub grown : (at c penalty : ℕ) (s : List ℕ) (read longer path : Path) → read ≡ path_at (c / 2) s
    → ((p : List Bool) → length p ≡ at → HasSymbols p read → HasSymbols (p ++ (odd c ∷ [])) longer)
    → path.symbols ≡ longer.symbols → path.penalty ≡ penalty → Candidate at c penalty s path
grown at c penalty s read longer path e g f h =
    ((λ p l q. ap unpack f ∙ g p l (ap (λ (r : Path). unpack r.symbols) e ∙ q)), h)

-- A path that is read from a record, after unmarked phases.
pub frozen-read : (penalty : ℕ) (old read path new : Path) → read ≡ old → Frozen penalty read path → new ≡ path → Frozen penalty old new
frozen-read penalty old read path new e f g = rw (g, ← e) f

-- Of the records below n one more, record n, has the path that P asks for; the others stay.
pub record-next : (P : ℕ → Path → Type 0) (n : ℕ) (old new : List ℕ) → n < 8
    → ((j : ℕ) → j < 8 → j ≢ n → path_at j new ≡ path_at j old) → P n (path_at n new)
    → ((j : ℕ) → j < n → P j (path_at j old)) → (j : ℕ) → j < n + 1 → P j (path_at j new)
record-next P n old new l others here before j h = go (dec_lt j n)
  where
    go : Dec (j < n) → P j (path_at j new)
    go (yes k) = rw (others j (omega arith) (λ e. omega arith)) (before j k)
    go (no k) = let e : j ≡ n = omega arith in rw e here

-- Those from n on stay.
pub records-after : (n : ℕ) (first old new : List ℕ) → n < 8
    → ((j : ℕ) → j < 8 → j ≢ n → path_at j new ≡ path_at j old)
    → ((j : ℕ) → n ≤ j → j < 8 → path_at j old ≡ path_at j first) → (j : ℕ) → n + 1 ≤ j → j < 8 → path_at j new ≡ path_at j first
records-after n first old new l others after j h k = others j k (λ e. omega arith) ∙ after j (omega arith) k
