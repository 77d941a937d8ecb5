-- `straight_one::last1` meets its contract: v11 by the two entries of the path that is left, then the last of four values. Assumes nothing.
use mathlib.Core.Path.{◌≡◌, refl, sym, ap, ap₂, ◌∙◌}
use mathlib.Core.Bool.{Bool, not, beq}
use mathlib.Core.List.{List, [], ◌∷◌}
use Prim.Native.Nat.{ℕ, ◌+◌, ◌^◌, ◌<◌}
use native.Mathlib.Nat.{add_assoc}
use native.Mathlib.Omega.{arith}
use lib.IntN.{ℤ, ◌-ℤ◌}
use lib.ListN.{length, get_or}
use lib.Signed.{mag}
use Rattle.base.specs.Bit.{◌⊕◌, bit}
use Rattle.bits.specs.Packed.{bits}
use Rattle.values.specs.Value.{Small}
use Rattle.values.specs.Arikan.{arikan_word, arikan_score}
use Rattle.values.specs.Path.{entry}
use Rattle.value_folds.proofs.Carried.{Carried, carried, sub-fits, carried-sub, read}
use Rattle.phase_scores.specs.Quarter.{at, KnownQuarter}
use Rattle.phase_scores.proofs.Quarters.{quarter-known}
use Rattle.quarters.proofs.Best.{entry-small}
use Rattle.quarters.proofs.Bounds.{wider, known-quarter-small}
use Rattle.quarters.proofs.Following.{follows-as}
use Rattle.quarters.proofs.Index.{differ, differ-twice, fifth}
use borrow.Author.Rules.{rules}
use Rattle.straight_one.proofs.last1.Goals as goal
use Rattle.straight_one.proofs.last1.Goals.{After-entry_of, After-entry_of-2, Start}

-- The entry of a row for a path, by t = v5 + v6 + v10 and v6, c = v10, v7 and o = v3,
abbrev path_entry : List ℤ → Bool → Bool → Bool → Bool → Bool → ℤ
path_entry row t v6 c v7 o = entry row v6 (t ⊕ (v6 ⊕ c)) ((((t ⊕ (v6 ⊕ c)) ⊕ v6) ⊕ v7) ⊕ o)

-- is that at the bits that the code computes.
entry-as : (row : List ℤ) (t v6 c v7 o : Bool)
    → entry row v6 (not (beq (not (beq t v6)) c)) (not (beq (not (beq (not (beq (not (beq (not (beq t v6)) c)) v6)) v7)) o))
    ≡ path_entry row t v6 c v7 o
entry-as row t v6 c v7 o =
    ap₂ (entry row v6) (fifth t v6 c)
    (differ (not (beq (not (beq (not (beq (not (beq t v6)) c)) v6)) v7)) o
    ∙ ap (λ b. b ⊕ o) (differ-twice (not (beq (not (beq t v6)) c)) v6 v7)
    ∙ ap (λ g. ((g ⊕ v6) ⊕ v7) ⊕ o) (fifth t v6 c))

-- The scores after v11 are those of the four values that v8 to v11 leave, after v12.
after-eleven : (e q : List ℤ) (v8 u v6 v10 v11 v12 : Bool) (w : ℕ → Bool) → ((i : ℕ) → i < 4 → w i ≡ arikan_word 2 (v8 ∷ not (beq u v6) ∷ v10 ∷ v11 ∷ []) i) → KnownQuarter e w q
    → (p : List Bool) → length p < 3 → arikan_score 2 (at q) (v12 ∷ p) ≡ arikan_score 3 (at e) (v8 ∷ (u ⊕ v6) ∷ v10 ∷ v11 ∷ v12 ∷ p)
after-eleven e q v8 u v6 v10 v11 v12 w hw h p l =
    sym (quarter-known e q (v8 ∷ (u ⊕ v6) ∷ v10 ∷ v11 ∷ []) refl w (λ i li. hw i li ∙ ap (λ b. arikan_word 2 (v8 ∷ b ∷ v10 ∷ v11 ∷ []) i) (differ u v6)) h (v12 ∷ p) (omega arith))

-- The symbols of phases 4 to 6, v8, u and t, and those of phases 8 to 11, v12, v6, v10 and v7.
abbrev opened : Start → ℕ → Bool
opened s i = bit s.args.opened.now i

abbrev third : Start → ℕ → Bool
third s i = bit s.args.third.now i

-- The entry of the path that is left.
abbrev entry_of : Start → List ℤ → ℤ
entry_of s row = path_entry row (opened s 2) (third s 1) (third s 2) (third s 3) s.args.v3

-- It is carried where the code reads it.
held-path : (s : Start) (row : List ℤ) → Small 16777216 8 row → (r : ℤ) → mag r < 2 ^ 31
    → r ≡ entry row (third s 1) (not (beq (not (beq (opened s 2) (third s 1))) (third s 2))) (not (beq (not (beq (not (beq (not (beq (not (beq (opened s 2) (third s 1))) (third s 2))) (third s 1))) (third s 3))) s.args.v3))
    → Carried r (entry_of s row) 16777216
held-path s row h r l e =
    let g = opened s 2 ⊕ (third s 1 ⊕ third s 2) in
    carried r (entry_of s row) 16777216 l (e ∙ entry-as row (opened s 2) (third s 1) (third s 2) (third s 3) s.args.v3)
    (entry-small 16777216 row h (third s 1) g (((g ⊕ third s 1) ⊕ third s 3) ⊕ s.args.v3))

-- The entries of both rows.
zero : (c : After-entry_of) → (let s = (goal.at.After-entry_of c).Start in Carried c.entry_of.result (entry_of s (get_or s.args.kept.now 0 [])) 16777216)
zero c =
    let s = (goal.at.After-entry_of c).Start in
    held-path s (get_or s.args.kept.now 0 []) s.requires.1 c.entry_of.result c.entry_of.type_inv c.entry_of.ensures

one : (c : After-entry_of-2) → (let s = (goal.at.After-entry_of-2 c).Start in Carried c.entry_of-2.result (entry_of s (get_or s.args.kept.now 1 [])) 16777216)
one c =
    let s = (goal.at.After-entry_of-2 c).Start in
    held-path s (get_or s.args.kept.now 1 []) s.requires.2 c.entry_of-2.result c.entry_of-2.type_inv c.entry_of-2.ensures

pub overflow_sub-score : goal.overflow_sub-score
overflow_sub-score c =
    let s = (goal.at.overflow_sub-score c).Start in
    sub-fits c.entry_of.result c.entry_of-2.result (entry_of s (get_or s.args.kept.now 0 [])) (entry_of s (get_or s.args.kept.now 1 [])) 16777216 16777216 (zero (goal.at.overflow_sub-score c).After-entry_of) (one (goal.at.overflow_sub-score c).After-entry_of-2) (omega arith)

-- The score of v11.
less : (c : After-entry_of-2) → (let s = (goal.at.After-entry_of-2 c).Start in Carried (read c.entry_of.result -ℤ read c.entry_of-2.result) (entry_of s (get_or s.args.kept.now 0 []) -ℤ entry_of s (get_or s.args.kept.now 1 [])) (16777216 + 16777216))
less c =
    let s = (goal.at.After-entry_of-2 c).Start in
    carried-sub c.entry_of.result c.entry_of-2.result (entry_of s (get_or s.args.kept.now 0 [])) (entry_of s (get_or s.args.kept.now 1 [])) 16777216 16777216 (zero (goal.at.After-entry_of-2 c).After-entry_of) (one c) (omega arith)

pub known_half-quarter-requires : goal.known_half-quarter-requires
known_half-quarter-requires c =
    let s = c in
    (search rules, (search rules, (search rules, wider 2097152 16777216 8 s.args.rest.now (omega arith) s.requires.0)))

pub after_first-last-requires : goal.after_first-last-requires
after_first-last-requires c =
    let s = c in
    let q = c.known_half-quarter in (
      wider (2097152 + 2097152) 4194304 4 q.result (omega arith)
          (known-quarter-small 2097152 s.args.rest.now q.result s.requires.0 (bit c.word_of_four-word.result) q.ensures),
      omega arith,
    )

pub returns : goal.returns
returns c =
    λ sc first rest.
    let s = (goal.at.returns c).Start in
    let b = c.symbol-v11 in
    let w = c.word_of_four-word in
    let q = c.known_half-quarter in
    let a = c.after_first-last in
    let fre = bit (bits 16 s.args.sources.free) in
    let giv = bit (bits 16 s.args.sources.given) in
    c.one_and_three.ensures.0 sc (λ i. fre (12 + i)) (λ i. giv (12 + i))
    ((less (goal.at.returns c).After-entry_of-2).is ∙ sym {b = entry_of s (get_or s.args.kept.now 0 []) -ℤ entry_of s (get_or s.args.kept.now 1 [])} first)
    b.ensures
    (follows-as (λ p. arikan_score 2 (at q.result) (third s 0 ∷ p)) (λ p. sc (b.result ∷ p)) (λ i. fre (13 + i)) (λ i. fre (12 + (1 + i))) (λ i. giv (13 + i)) (λ i. giv (12 + (1 + i))) 3 a.result.scores a.result.symbols
    (λ p l. after-eleven s.args.rest.now q.result (opened s 0) (opened s 1) (third s 1) (third s 2) b.result (third s 0) (bit w.result) w.ensures q.ensures p l ∙ sym (rest b.result p l))
    (λ i. ap fre (add_assoc 12 1 i)) (λ i. ap giv (add_assoc 12 1 i)) a.ensures)
