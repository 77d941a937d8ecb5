-- `straight_one::kernel1` meets its contract: four times four phases, each part by its window or by values. Assumes nothing.
use mathlib.Core.Path.{◌≡◌, sym, ap, ap₂, ◌∙◌, subst⁻¹}
use mathlib.Core.Bool.{Bool, true, false}
use mathlib.Core.List.{List, [], ◌∷◌}
use Prim.Native.Nat.{ℕ, ◌+◌, ◌<◌}
use native.Mathlib.Omega.{arith}
use lib.IntN.{ℤ, pos}
use lib.ListN.{get_or}
use mir.Facts.{to_z-of_z}
use Rattle.base.specs.Bit.{◌⊕◌, bit, digit}
use Rattle.bits.specs.Packed.{bits}
use Rattle.polar.specs.Code.{channel, score}
use Rattle.folds.specs.Range.{value_limit}
use Rattle.folds.proofs.Limit.{limit-room}
use Rattle.kernel.specs.Kernels.{kernel_code}
use Rattle.values.specs.Value.{free_value, known_value, Small}
use Rattle.values.specs.Arikan.{arikan_word, best_v}
use Rattle.values.specs.Path.{RowOf}
use Rattle.values.proofs.Greater.{greater-small}
use Rattle.value_folds.proofs.Carried.{read}
use Rattle.phase_scores.specs.Quarter.{at, PlacesOf, KnownHalf}
use Rattle.phase_scores.proofs.First.{first-row1}
use Rattle.phase_scores.proofs.Kernel1.{score1-7}
use Rattle.run.specs.Run.{symbol_by}
use Rattle.quarters.specs.Part.{Follows}
use Rattle.quarters.proofs.Bounds.{wider, limit-small, free-half-small, known-half-small}
use Rattle.quarters.proofs.Rows.{row_small}
use Rattle.straight_one.proofs.Parts1.{kept_row, closing-part, pick, left-score, left-rest}
use borrow.Author.Rules.{rules}
use Rattle.straight_one.proofs.kernel1.Goals as goal
use Rattle.straight_one.proofs.kernel1.Goals.{After-best_each-kept, After-blocks1-blocks, After-last1-d, After-lead-score, After-places-places, After-rest1-rest, After-widened1-widened}
use mir.Syntax.{w32}

pub free_half-eighths-requires : goal.free_half-eighths-requires
free_half-eighths-requires c = (search rules, (c.requires.0, wider value_limit 16777216 16 c.args.values.now (omega (arith, limit-room)) (limit-small c.args.values.now c.requires.0 c.requires.1)))

pub begin1-a-requires : goal.begin1-a-requires
begin1-a-requires c = ((c.requires.0, c.requires.1), c.free_half-eighths.ensures)

pub first_rows-first-requires : goal.first_rows-first-requires
first_rows-first-requires c = wider value_limit 2097152 8 c.free_half-eighths.result (omega (arith, limit-room)) (free-half-small value_limit c.args.values.now c.free_half-eighths.result (limit-small c.args.values.now c.requires.0 c.requires.1) c.free_half-eighths.ensures)

pub places-places-requires : goal.places-places-requires
places-places-requires c = (c.requires.0, wider value_limit 4194304 16 c.args.values.now (omega (arith, limit-room)) (limit-small c.args.values.now c.requires.0 c.requires.1))

-- The known v of the window's word, and that the code has this word.
known-v : After-places-places → List Bool
known-v c = let v = c.begin1-a.result.symbols in bit v 0 ∷ bit v 1 ∷ bit v 2 ∷ false ∷ bit v 3 ∷ false ∷ false ∷ false ∷ []

word-is : (c : After-places-places) (i : ℕ) → i < 8 → get_or c.word1-word.result i false ≡ arikan_word 3 (known-v c) i
unfolding known-v
word-is c = c.word1-word.ensures

-- The first row and the places of each v3.
row-of-v3 : (c : After-places-places) (b : Bool) → (let v = c.begin1-a.result.symbols in
    RowOf b (λ x y z. best_v c.args.values.now (bit v 0 ∷ bit v 1 ∷ bit v 2 ∷ b ∷ bit v 3 ∷ x ∷ y ∷ z ∷ [])) (get_or c.first_rows-first.result (digit b) []))
unfolding known-v
row-of-v3 c b =
    let v = c.begin1-a.result.symbols in
    first-row1 c.args.values.now (bit v 0) (bit v 1) (bit v 2) b (bit v 3) c.free_half-eighths.result c.free_half-eighths.ensures
    (bit c.word1-word.result) (word-is c) (get_or c.first_rows-first.result (digit b) []) (c.first_rows-first.ensures b)

places-of-v3 : (c : After-places-places) (b : Bool) → PlacesOf c.args.values.now (arikan_word 3 (known-v c)) b (get_or c.places-places.result (digit b) [])
places-of-v3 c o b i l =
    let ys = c.args.values.now in
    c.places-places.ensures o b i l
    ∙ ap₂ (λ p q. free_value (known_value (p ⊕ b) (at ys i) (at ys (8 + i))) (known_value (q ⊕ (b ⊕ o)) (at ys (4 + i)) (at ys (12 + i))))
    (word-is c i (omega arith)) (word-is c (4 + i) (omega arith))

pub blocks1-blocks-requires : goal.blocks1-blocks-requires
unfolding known-v
blocks1-blocks-requires c =
    let d = (goal.at.blocks1-blocks-requires c).After-places-places in
    let s = c in
    record {
      values_len = (s.requires.0, s.requires.1);
      row_of = (row-of-v3 d false, row-of-v3 d true);
      b_value = (places-of-v3 d false, places-of-v3 d true);
    }

-- The best score of a path of each v3 after v10,
after-ten : After-blocks1-blocks → Bool → Bool → Bool → Bool → ℤ
after-ten c b x y z =
    let v = c.begin1-a.result.symbols in
    let o = c.blocks1-blocks.result.phases.symbols in
    best_v c.args.values.now (bit v 0 ∷ bit v 1 ∷ bit v 2 ∷ b ∷ bit v 3 ∷ x ∷ y ∷ z ∷ bit o 0 ∷ (bit o 1 ⊕ y) ∷ (bit o 2 ⊕ (x ⊕ y)) ∷ [])

-- and that its rows are small.
zero-small : (c : After-blocks1-blocks) → Small 16777216 8 (get_or c.blocks1-blocks.result.kept 0 [])
zero-small c =
    let s = c in
    let v = c.begin1-a.result.symbols in
    let o = c.blocks1-blocks.result.phases.symbols in
    row_small s.args.values.now s.requires.0 s.requires.1 false
    (λ x y z. bit v 0 ∷ bit v 1 ∷ bit v 2 ∷ false ∷ bit v 3 ∷ x ∷ y ∷ z ∷ bit o 0 ∷ (bit o 1 ⊕ y) ∷ (bit o 2 ⊕ (x ⊕ y)) ∷ []) (get_or c.blocks1-blocks.result.kept 0 []) c.blocks1-blocks.ensures.kept.0

one-small : (c : After-blocks1-blocks) → Small 16777216 8 (get_or c.blocks1-blocks.result.kept 1 [])
one-small c =
    let s = c in
    let v = c.begin1-a.result.symbols in
    let o = c.blocks1-blocks.result.phases.symbols in
    row_small s.args.values.now s.requires.0 s.requires.1 true
    (λ x y z. bit v 0 ∷ bit v 1 ∷ bit v 2 ∷ true ∷ bit v 3 ∷ x ∷ y ∷ z ∷ bit o 0 ∷ (bit o 1 ⊕ y) ∷ (bit o 2 ⊕ (x ⊕ y)) ∷ []) (get_or c.blocks1-blocks.result.kept 1 []) c.blocks1-blocks.ensures.kept.1

pub lead-score-requires : goal.lead-score-requires
lead-score-requires c =
    let d = (goal.at.lead-score-requires c).After-blocks1-blocks in
    (zero-small d, one-small d)

-- Their lead is the score of v3.
lead_is : (c : After-lead-score) → (let v = c.begin1-a.result.symbols in
    let o = c.blocks1-blocks.result.phases.symbols in
    read c.lead-score.result ≡ score (kernel_code 1) (channel c.args.values.now) (bit v 0 ∷ bit v 1 ∷ bit v 2 ∷ bit v 3 ∷ bit o 0 ∷ bit o 1 ∷ bit o 2 ∷ []))
lead_is c =
    let v = c.begin1-a.result.symbols in
    let k = c in
    let o = k.blocks1-blocks.result.phases.symbols in
    to_z-of_z {w = w32} (record { sfits = c.lead-score.type_inv })
    ∙ c.lead-score.ensures
    ∙ sym (score1-7 c.args.values.now (bit v 0) (bit v 1) (bit v 2) (bit v 3) (bit o 0) (bit o 1) (bit o 2) (get_or k.blocks1-blocks.result.kept 0 []) (get_or k.blocks1-blocks.result.kept 1 []) k.blocks1-blocks.ensures.kept.0 k.blocks1-blocks.ensures.kept.1)

pub widened1-widened-requires : goal.widened1-widened-requires
unfolding after-ten known-v
widened1-widened-requires c =
    let s = c in
    let d = (goal.at.widened1-widened-requires c).After-places-places in
    let k = (goal.at.widened1-widened-requires c).After-blocks1-blocks in
    let x = c.symbol-v3.result in record {
      values_len = (s.requires.0, s.requires.1);
      row_of = pick (λ b row. RowOf b (after-ten k b) row) k.blocks1-blocks.result.kept k.blocks1-blocks.ensures.kept.0 k.blocks1-blocks.ensures.kept.1 x;
      b_value = pick (λ b p. PlacesOf s.args.values.now (arikan_word 3 (known-v d)) b p) d.places-places.result (places-of-v3 d false) (places-of-v3 d true) x;
    }

-- The rows of both v11 are small,
zero_left : (c : After-widened1-widened) → Small 16777216 8 (get_or c.widened1-widened.result.kept 0 [])
zero_left c =
    let s = c in
    let v = c.begin1-a.result.symbols in
    let o = c.blocks1-blocks.result.phases.symbols in
    let e = c.symbol-v3.result in
    row_small s.args.values.now s.requires.0 s.requires.1 e
    (λ x y z. bit v 0 ∷ bit v 1 ∷ bit v 2 ∷ e ∷ bit v 3 ∷ x ∷ y ∷ z ∷ bit o 0 ∷ (bit o 1 ⊕ y) ∷ (bit o 2 ⊕ (x ⊕ y)) ∷ false ∷ c.widened1-widened.result.symbol ∷ []) (get_or c.widened1-widened.result.kept 0 []) c.widened1-widened.ensures.kept.0

one_left : (c : After-widened1-widened) → Small 16777216 8 (get_or c.widened1-widened.result.kept 1 [])
one_left c =
    let s = c in
    let v = c.begin1-a.result.symbols in
    let o = c.blocks1-blocks.result.phases.symbols in
    let e = c.symbol-v3.result in
    row_small s.args.values.now s.requires.0 s.requires.1 e
    (λ x y z. bit v 0 ∷ bit v 1 ∷ bit v 2 ∷ e ∷ bit v 3 ∷ x ∷ y ∷ z ∷ bit o 0 ∷ (bit o 1 ⊕ y) ∷ (bit o 2 ⊕ (x ⊕ y)) ∷ true ∷ c.widened1-widened.result.symbol ∷ []) (get_or c.widened1-widened.result.kept 1 []) c.widened1-widened.ensures.kept.1

-- and the score and the symbol of v12 are as they are read.
next-is : (c : After-widened1-widened) → (let v = c.begin1-a.result.symbols in
    let o = c.blocks1-blocks.result.phases.symbols in
    read c.widened1-widened.result.score ≡ score (kernel_code 1) (channel c.args.values.now) (bit v 0 ∷ bit v 1 ∷ bit v 2 ∷ bit v 3 ∷ bit o 0 ∷ bit o 1 ∷ bit o 2 ∷ c.symbol-v3.result ∷ []))
next-is c =
    let z = c.widened1-widened.result.score in
    let e : read z ≡ z = search rules in
    e ∙ c.widened1-widened.ensures.score.0

next-by : (c : After-widened1-widened) → c.widened1-widened.result.symbol
    ≡ symbol_by (bit (bits 16 c.args.free) 8) (bit (bits 16 c.args.given) 8) (read c.widened1-widened.result.score)
next-by c =
    let z = c.widened1-widened.result.score in
    let e : read z ≡ z = search rules in
    c.widened1-widened.ensures.score.1
    ∙ ap (symbol_by (bit (bits 16 c.args.free) 8) (bit (bits 16 c.args.given) 8)) (sym e)

-- The greater of both is small.
kept_small : (c : After-best_each-kept) → Small 16777216 8 c.best_each-kept.result
kept_small c i l =
    let w = (goal.at.After-best_each-kept c).After-widened1-widened in
    rw (c.best_each-kept.ensures i l) (greater-small (get_or (get_or w.widened1-widened.result.kept 0 []) i (pos 0)) (get_or (get_or w.widened1-widened.result.kept 1 []) i (pos 0)) 16777216 (zero_left w i l) (one_left w i l))

pub close-closed-requires : goal.close-closed-requires
close-closed-requires c = (kept_small (goal.at.close-closed-requires c).After-best_each-kept, omega arith)

pub rest1-rest-requires : goal.rest1-rest-requires
rest1-rest-requires c = (c.requires.0, c.requires.1)

-- The first eight v, and the values that they leave.
eight-v : After-rest1-rest → List Bool
eight-v c =
    let v = c.begin1-a.result.symbols in
    let o = c.blocks1-blocks.result.phases.symbols in
    let q = c.close-closed.result.symbols in
    bit v 0 ∷ bit v 1 ∷ bit v 2 ∷ c.symbol-v3.result ∷ bit v 3 ∷ (bit o 2 ⊕ (bit q 0 ⊕ bit q 1)) ∷ bit q 0 ∷ bit q 2 ∷ []

rest-is : (c : After-rest1-rest) → KnownHalf c.args.values.now (arikan_word 3 (eight-v c)) c.rest1-rest.result
unfolding eight-v
rest-is c i l = c.rest1-rest.ensures i l

pub last1-d-requires : goal.last1-d-requires
last1-d-requires c =
    let s = c in
    let w = (goal.at.last1-d-requires c).After-widened1-widened in
    let r = c.rest1-rest in (
      wider (value_limit + value_limit) 2097152 8 r.result (omega (arith, limit-room))
          (known-half-small value_limit s.args.values.now r.result (limit-small s.args.values.now s.requires.0 s.requires.1) (arikan_word 3 (eight-v (goal.at.last1-d-requires c).After-rest1-rest)) (rest-is (goal.at.last1-d-requires c).After-rest1-rest)),
      zero_left w,
      one_left w,
    )

-- The last four phases.
last-follows : (c : After-last1-d) → (let s = c in
    let v = c.begin1-a.result.symbols in
    let o = c.blocks1-blocks.result.phases.symbols in
    let n = c.one_and_three-c.result.symbols in
    Follows (λ r. score (kernel_code 1) (channel s.args.values.now) (bit v 0 ∷ bit v 1 ∷ bit v 2 ∷ bit v 3 ∷ bit o 0 ∷ bit o 1 ∷ bit o 2 ∷ c.symbol-v3.result ∷ bit n 0 ∷ bit n 1 ∷ bit n 2 ∷ bit n 3 ∷ r))
    (λ i. bit (bits 16 s.args.free) (12 + i)) (λ i. bit (bits 16 s.args.given) (12 + i)) 4 c.last1-d.result.scores c.last1-d.result.symbols)
unfolding eight-v
last-follows c =
    let s = c in
    let ys = s.args.values.now in
    let v = c.begin1-a.result.symbols in
    let o = c.blocks1-blocks.result.phases.symbols in
    let x = c.symbol-v3.result in
    let w = c.widened1-widened in
    let q = c.close-closed.result.symbols in
    let t = w.result.symbol in
    let n = c.one_and_three-c in
    let r = c.rest1-rest in
    c.last1-d.ensures
    (λ p. score (kernel_code 1) (channel ys) (bit v 0 ∷ bit v 1 ∷ bit v 2 ∷ bit v 3 ∷ bit o 0 ∷ bit o 1 ∷ bit o 2 ∷ x ∷ bit n.result.symbols 0 ∷ bit n.result.symbols 1 ∷ bit n.result.symbols 2 ∷ bit n.result.symbols 3 ∷ p))
    (left-score ys (bit v 0) (bit v 1) (bit v 2) (bit v 3) (bit o 0) (bit o 1) (bit o 2) x t (bit q 0) (bit q 1) (bit q 2) (get_or w.result.kept 0 []) (get_or w.result.kept 1 []) r.result w.ensures.kept.0 w.ensures.kept.1 (rest-is (goal.at.After-last1-d c).After-rest1-rest) n.result.symbols n.ensures.1)
    (left-rest ys (bit v 0) (bit v 1) (bit v 2) (bit v 3) (bit o 0) (bit o 1) (bit o 2) x t (bit q 0) (bit q 1) (bit q 2) (get_or w.result.kept 0 []) (get_or w.result.kept 1 []) r.result w.ensures.kept.0 w.ensures.kept.1 (rest-is (goal.at.After-last1-d c).After-rest1-rest) n.result.symbols n.ensures.1)

pub returns : goal.returns
returns c =
    let s = c in
    let ys = s.args.values.now in
    let f = bit (bits 16 s.args.free) in
    let g = bit (bits 16 s.args.given) in
    let sc = score (kernel_code 1) (channel ys) in
    let v = c.begin1-a.result.symbols in
    let k = c in
    let o = k.blocks1-blocks.result.phases.symbols in
    let l = (goal.at.returns c).After-lead-score in
    let x = c.symbol-v3.result in
    let b = c.three_and_one-b in
    let w = c in
    let t = w.widened1-widened.result.symbol in
    let n = c.one_and_three-c in
    let p = c.close-closed in
    let q = p.result.symbols in
    let kept = c.best_each-kept.result in
    let row = kept_row ys (bit v 0) (bit v 1) (bit v 2) (bit v 3) (bit o 0) (bit o 1) (bit o 2) x t (get_or w.widened1-widened.result.kept 0 []) (get_or w.widened1-widened.result.kept 1 []) kept
    w.widened1-widened.ensures.kept.0 w.widened1-widened.ensures.kept.1 c.best_each-kept.ensures in
    let head = bit v 0 ∷ bit v 1 ∷ bit v 2 ∷ bit v 3 ∷ [] in
    c.joined.ensures sc f g
    c.begin1-a.ensures
    (b.ensures.0 (λ r. sc (bit v 0 ∷ bit v 1 ∷ bit v 2 ∷ bit v 3 ∷ r)) (λ i. f (4 + i)) (λ i. g (4 + i)) k.blocks1-blocks.ensures.follows (lead_is l) c.symbol-v3.ensures)
    (subst⁻¹ (λ (e : List Bool). Follows (λ r. sc (bit v 0 ∷ bit v 1 ∷ bit v 2 ∷ bit v 3 ∷ bit e 0 ∷ bit e 1 ∷ bit e 2 ∷ bit e 3 ∷ r)) (λ i. f (8 + i)) (λ i. g (8 + i)) 4 n.result.scores n.result.symbols) b.ensures.1
    (n.ensures.0 (λ r. sc (bit v 0 ∷ bit v 1 ∷ bit v 2 ∷ bit v 3 ∷ bit o 0 ∷ bit o 1 ∷ bit o 2 ∷ x ∷ r)) (λ i. f (8 + i)) (λ i. g (8 + i)) (next-is (goal.at.returns c).After-widened1-widened) (next-by (goal.at.returns c).After-widened1-widened)
    (closing-part ys (bit v 0) (bit v 1) (bit v 2) (bit v 3) (bit o 0) (bit o 1) (bit o 2) x t f g kept p.result.scores q row p.ensures)))
    (subst⁻¹ (λ (e : List Bool). Follows (λ r. sc (bit v 0 ∷ bit v 1 ∷ bit v 2 ∷ bit v 3 ∷ bit e 0 ∷ bit e 1 ∷ bit e 2 ∷ bit e 3 ∷ bit n.result.symbols 0 ∷ bit n.result.symbols 1 ∷ bit n.result.symbols 2 ∷ bit n.result.symbols 3 ∷ r)) (λ i. f (12 + i)) (λ i. g (12 + i)) 4 c.last1-d.result.scores c.last1-d.result.symbols) b.ensures.1
    (last-follows (goal.at.returns c).After-last1-d))
