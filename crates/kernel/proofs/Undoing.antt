-- Words and symbols of the three kernels belong together one to one, and the two jobs undo one another. Assumes nothing.
use mathlib.Core.Path.{◌≡◌, sym, ap, ◌∙◌}
use mathlib.Core.Bool.{Bool, true, ◌&&◌}
use mathlib.Core.List.{List}
use Prim.Native.Nat.{ℕ, ◌^◌, ◌<◌}
use lib.ListN.{length}
use Rattle.base.specs.Bit.{bit, parity, tabulate}
use Rattle.base.proofs.List.{length-tabulate}
use Rattle.bits.specs.Packed.{bits, number}
use Rattle.bits.proofs.Packed.{length-bits, bits-number, number-bits-fit}
use Rattle.answer.specs.Verdict.{word, word_of}
use Rattle.polar.specs.Code.{Code, UndoneBy}
use Rattle.polar.specs.Kernel.{code}
use Rattle.polar.specs.Relation.{symbols, tied}
use Rattle.polar.proofs.Undo.{length-symbols-in, symbols-of-word, word-of-symbols}
use Rattle.polar.proofs.Relation.{symbols-tied, length-tied, one-v, word-symbols, word_rows, unrelated, related-undo, related-redo}
use Rattle.kernel.specs.Kernels.{F, relations, word_bit, kernel_code, word_symbols, kernel}
use Rattle.kernel.specs.Jobs.{is_kernel, checks, encoded_word, undone_symbols, kernel_encode, kernel_undo}
use Rattle.kernel.proofs.Solved.{solved, solution}

module _ (k : ℕ) where
  -- The word of the symbols that the relations give for v is vF.
  pub word-of-v : (v : List Bool) → length v ≡ 16 → (j : ℕ) → word_bit k (symbols (relations k) v) j ≡ parity 16 (λ i. bit v i && F i j)
  word-of-v = word-symbols 16 F F (relations k) (solved k) (solution k)

  -- Every u belongs to some v,
  pub some-v : (u : List Bool) → length u ≡ 16 → (v : List Bool) × (length v ≡ 16) × (symbols (relations k) v ≡ u)
  some-v u e =
      (tied (relations k) u, length-tied 16 F F (relations k) (solved k) (solution k) u, symbols-tied 16 F F (relations k) (solved k) (solution k) u e)

  -- and to one only.
  pub only-v : (v w : List Bool) → length v ≡ 16 → length w ≡ 16 → symbols (relations k) v ≡ symbols (relations k) w → v ≡ w
  only-v = one-v 16 F F (relations k) (solved k) (solution k)

  -- The kernel as a matrix has the same words: sums of its rows.
  pub code-word : (u : List Bool) → length u ≡ 16 → (j : ℕ) → (code (kernel k)).word u j ≡ word_bit k u j
  code-word u e j = sym (word_rows 16 F F (relations k) (solved k) (solution k) u e j)

  -- The code that undoes the kernel's,
  abbrev unkernel : Code
  unkernel = unrelated 16 F F (relations k) (solved k) (solution k)

  undoes : UndoneBy (kernel_code k) unkernel
  undoes = related-undo 16 F F (relations k) (solved k) (solution k)

  -- and that it undoes.
  redoes : UndoneBy unkernel (kernel_code k)
  redoes = related-redo 16 F F (relations k) (solved k) (solution k)

  fits : (l : List Bool) → length l ≡ 16 → bits 16 (number l) ≡ l
  fits l e = ap (λ n. bits n (number l)) (sym e) ∙ bits-number l

  -- Undo of encode, over all symbols,
  pub undone-encoded : (u : ℕ) → u < 2 ^ 16 → undone_symbols k (encoded_word k u) ≡ u
  unfolding encoded_word undone_symbols
  undone-encoded u h =
      let l = tabulate 16 (word_bit k (bits 16 u)) in
      ap (λ c. number (word_symbols k c)) (fits l (length-tabulate 16 _))
      ∙ ap number (symbols-of-word (kernel_code k) unkernel undoes redoes (bits 16 u) (length-bits 16 u))
      ∙ number-bits-fit 16 u h

  -- and encode of undo, over all words.
  pub encoded-undone : (c : ℕ) → c < 2 ^ 16 → encoded_word k (undone_symbols k c) ≡ c
  unfolding encoded_word undone_symbols
  encoded-undone c h =
      let u = word_symbols k (bits 16 c) in
      ap (λ l. number (tabulate 16 (word_bit k l))) (fits u (length-symbols-in (kernel_code k) (bits 16 c)))
      ∙ ap number (word-of-symbols (kernel_code k) unkernel undoes redoes (bits 16 c) (length-bits 16 c))
      ∙ number-bits-fit 16 c h

  -- The same of the two jobs.
  pub undo-encode : is_kernel k ≡ true → (u : ℕ) → u < 2 ^ 16 → kernel_undo k (word_of (kernel_encode k u)) ≡ word u
  unfolding checks
  undo-encode e u h = rw e (ap word (undone-encoded u h))

  pub encode-undo : is_kernel k ≡ true → (c : ℕ) → c < 2 ^ 16 → kernel_encode k (word_of (kernel_undo k c)) ≡ word c
  unfolding checks
  encode-undo e c h = rw e (ap word (encoded-undone c h))
