-- Codes, what their words pay, and the best score of the words that agree with given symbols. Assumes nothing.
use Rattle.std.specs.Prelude.{◌≡◌, Bool, true, false, List, [], ◌∷◌, ◌++◌, ℕ, zero, suc, ◌+◌, ◌-◌, ◌<◌, min, length, get_or, ℤ, pos, negsuc, neg_ℤ, ◌-ℤ◌, ◌≤ℤ◌}
use Rattle.base.specs.Bit.{bit, tabulate, same, find}

-- A code: how many symbols make a word, how many places a word has, and the bit at a place of the word of some symbols.
pub record Code : Type 0 where
  pub size : ℕ
  pub places : ℕ
  pub word : List Bool → ℕ → Bool

-- What each place pays for bit 0 and for bit 1.
abbrev pub Costs : Type 0
Costs = ℕ → Bool → ℕ

-- What a channel value pays, positive for bit 0: its size where its sign and the bit disagree. Zero pays nothing.
abbrev pub pay : ℤ → Bool → ℕ
pay (pos y) false = 0
pay (pos y) true = y
pay (negsuc y) false = suc y
pay (negsuc y) true = 0

-- The costs of a list of channel values.
abbrev pub channel : List ℤ → Costs
channel ys i = pay (get_or ys i (pos 0))

-- f 0 + f 1 + .. + f (n - 1).
unfoldable pub sum : ℕ → (ℕ → ℕ) → ℕ
sum zero f = 0
sum (suc n) f = f zero + sum n (λ i. f (suc i))

-- The total that the word of the symbols u pays.
unfoldable pub total : Code → Costs → List Bool → ℕ
total C m u = sum C.places (λ i. m i (C.word u i))

-- The least value of f over all lists of n bits.
unfoldable pub minimum : ℕ → (List Bool → ℕ) → ℕ
minimum zero f = f []
minimum (suc n) f = min (minimum n (λ t. f (false ∷ t))) (minimum n (λ t. f (true ∷ t)))

-- The least total of the words that agree with p: of all words whose symbols begin with p. The paper's penalty.
unfoldable pub least : Code → Costs → List Bool → ℕ
least C m p = minimum (C.size - length p) (λ t. total C m (p ++ t))

-- The score of a word: minus the total paid.
abbrev pub word_score : Code → Costs → List Bool → ℤ
word_score C m u = neg_ℤ (pos (total C m u))

-- The best score of the words that agree with p.
abbrev pub best_score : Code → Costs → List Bool → ℤ
best_score C m p = neg_ℤ (pos (least C m p))

-- What makes x the best score of the words that agree with p: one of them has it, and none of them exceeds it.
pub record IsBest (C : Code) (m : Costs) (p : List Bool) (x : ℤ) : Type 0 where
  pub had : (t : List Bool) × (length (p ++ t) ≡ C.size) × (word_score C m (p ++ t) ≡ x)
  pub top : (t : List Bool) → length (p ++ t) ≡ C.size → word_score C m (p ++ t) ≤ℤ x

-- The score after the symbols p: the best score with 0 next, less the best with 1 next; later symbols are free.
unfoldable pub score : Code → Costs → List Bool → ℤ
score C m p = best_score C m (p ++ (false ∷ [])) -ℤ best_score C m (p ++ (true ∷ []))

-- Every choice of bits at the places is the word of some symbols.
abbrev pub Onto : Code → Type 0
Onto C = (x : ℕ → Bool) → (u : List Bool) × (length u ≡ C.size) × ((i : ℕ) → i < C.places → C.word u i ≡ x i)

-- C is undone by D: of the word of u by C, D makes u again.
pub record UndoneBy (C D : Code) : Type 0 where
  pub back : D.size ≡ C.places
  pub there : D.places ≡ C.size
  pub undo : (u : List Bool) → length u ≡ C.size → (i : ℕ) → i < C.size → D.word (tabulate C.places (C.word u)) i ≡ bit u i

-- The symbols of a word of C: those whose word it is.
unfoldable pub symbols_in : Code → List Bool → List Bool
symbols_in C c = find C.size (λ u. same (tabulate C.places (C.word u)) c)
