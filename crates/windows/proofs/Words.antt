-- The word that a phase's table makes of a path, as the code finds it, and how many paths there are. Assumes nothing.
use mathlib.Core.Path.{◌≡◌, sym, ap, ◌∙◌}
use mathlib.Core.Bool.{Bool}
use mathlib.Core.List.{List}
use Prim.Native.Nat.{ℕ, ◌-◌, ◌*◌, ◌%◌, ◌^◌, ◌≤◌, ◌<◌}
use native.Mathlib.Nat.{one-mul}
use native.Mathlib.Omega.{arith}
use lib.Dec.{lit<}
use lib.ListN.{take}
use lib.Pow.{pow_mono, shl_exact}
use Rattle.bits.specs.Packed.{bits, number}
use Rattle.bits.proofs.Packed.{number-bits-fit}
use Rattle.kernel.specs.Rows.{row_sum}
use Rattle.windows.specs.Paths.{Choice, choice_number, path_word_of}

-- A number of sixteen bits that has the chosen bits is the chosen number.
pub chosen_is : (us : List Bool) (b : Bool) (ws : List Bool) (x : ℕ) → x < 2 ^ 16 → Choice us b ws x → x ≡ choice_number us b ws
chosen_is us b ws x l e = sym (number-bits-fit 16 x l) ∙ ap number e

module _ (table : List ℕ) (symbols phase high : ℕ) (b : Bool) (w x : ℕ) (l : x < 2 ^ 16)
    (e : Choice (take phase (bits 16 symbols)) b (bits (high - phase) w) x) where
  -- The table's sum at it is the path's word,
  pub path-word-is : row_sum table x ≡ path_word_of table symbols phase high b w
  path-word-is = ap (row_sum table) (chosen_is (take phase (bits 16 symbols)) b (bits (high - phase) w) x l e)

  -- and so is what a call returns that gives the sum.
  pub word-found : {r : ℕ} → r ≡ row_sum table x → r ≡ path_word_of table symbols phase high b w
  word-found p = p ∙ path-word-is

-- A window of at most four bits has at most sixteen paths,
pub pow-le : (d : ℕ) → d ≤ 4 → 2 ^ d ≤ 16
pow-le d l = pow_mono l

-- and the shift by which the code counts them loses nothing.
pub paths-are : (d : ℕ) → d ≤ 4 → 1 * 2 ^ d % 2 ^ 64 ≡ 2 ^ d
paths-are d l = shl_exact {a = 1} 1 d 64 (lit< tt) (omega arith) ∙ one-mul (2 ^ d)
