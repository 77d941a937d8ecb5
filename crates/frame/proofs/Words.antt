-- The words of all plans by the tables of rows, and their symbols by the inverse tables in the other order. Assumes nothing.
use mathlib.Core.Path.{◌≡◌, refl, sym, ap, ap₂, ◌∙◌}
use mathlib.Core.Bool.{Bool, false, ◌&&◌}
use mathlib.Core.List.{List, [], ◌∷◌, ◌++◌, append-nil}
use Prim.Native.Nat.{ℕ, zero, suc, ◌-◌, ◌*◌, ◌/◌, ◌%◌, ◌^◌, ◌<◌}
use native.Mathlib.Nat.{mod-lt, div-lt_iff_lt-mul, one-le-pow}
use native.Mathlib.Omega.{arith}
use lib.ListN.{get_or, length, drop}
use lib.Seq.{drop-length}
use Rattle.base.specs.Bit.{bit, parity, tabulate}
use Rattle.base.proofs.Bool.{parity-cong}
use Rattle.base.proofs.List.{tabulate-cong}
use Rattle.bits.specs.Packed.{unpack, pack}
use Rattle.bits.proofs.Packed.{length-unpack, unpack-pack}
use Rattle.payload.specs.Payload.{spread}
use Rattle.polar.specs.Code.{Code, UndoneBy, symbols_in}
use Rattle.polar.specs.Kernel.{Kernel, Invertible, inverted}
use Rattle.polar.specs.Frame.{factor, layers}
use Rattle.polar.specs.Encoding.{backward}
use Rattle.polar.proofs.Layers.{extent-power}
use Rattle.polar.proofs.Encoding.{undoing, layers-undone, layers-redone}
use Rattle.polar.proofs.Undo.{symbols-are}
use Rattle.kernel.proofs.Solved.{invertible}
use Rattle.kernel.proofs.Table.{table-row, inverse-row}
use Rattle.plan.specs.declared.Plan.{Plan}
use Rattle.plan.specs.Plan.{bad_layers, bad_kernels, plan_kernel, plan_code, symbol_count, byte_count}
use Rattle.plan.proofs.Layered.{kernels-known, power-next, plan-size, bytes_bits, bytes-rows}
use Rattle.grid.specs.Grid.{table_kernel, tables_code, rows_bits}
use Rattle.grid.proofs.Grid.{length-rows-bits}
use Rattle.plan_tables.specs.Tables.{layer_table, undoing_table, Tables}
use Rattle.frame.specs.Jobs.{encoded_frame, frame_symbols}

-- ---- frames of like kernels have like words

module _ (K L : ℕ → Kernel) (d_k : (i : ℕ) → (K i).dim ≡ 16) (d_l : (i : ℕ) → (L i).dim ≡ 16) where
  -- The first m kernels have the same entries.
  abbrev Same : ℕ → Type 0
  Same m = (i : ℕ) → i < m → (s j : ℕ) → s < 16 → j < 16 → (K i).entry s j ≡ (L i).entry s j

  factor-same : (m : ℕ) → Same m → (i p : ℕ) → i < 16 ^ m → factor K m i p ≡ factor L m i p
  factor-same zero h i p l = refl
  factor-same (suc m) h i p l =
      let e : ℕ = 16 ^ m in
      let pos : 0 < e = one-le-pow m 16 (omega arith) in
      let li : i / e < 16 = (div-lt_iff_lt-mul pos).1 (rw (← (power-next m)) l) in
      ap₂ (λ e d. factor K m (i % e) (p / d) && (K m).entry (i / e) (p % d)) (extent-power 16 K d_k m) (d_k m)
      ∙ ap₂ (λ a b. a && b) (factor-same m (λ k lk. h k (omega arith)) (i % e) (p / 16) (mod-lt i pos)) (h m (omega arith) (i / e) (p % 16) li (omega arith))
      ∙ sym (ap₂ (λ e d. factor L m (i % e) (p / d) && (L m).entry (i / e) (p % d)) (extent-power 16 L d_l m) (d_l m))

  pub layers-same : (m : ℕ) → Same m → (u : List Bool) (p : ℕ) → (layers K m).word u p ≡ (layers L m).word u p
  layers-same m h u p =
      ap (λ n. parity n (λ i. bit u i && factor K m i p)) (extent-power 16 K d_k m)
      ∙ parity-cong (16 ^ m) (λ i l. ap (λ b. bit u i && b) (factor-same m h i p l))
      ∙ sym (ap (λ n. parity n (λ i. bit u i && factor L m i p)) (extent-power 16 L d_l m))

-- Kernel i of those that undo a frame.
module _ (K : ℕ → Kernel) (v : (i : ℕ) → Invertible (K i)) where
  backward-at : (m i : ℕ) → i < m → backward K v m i ≡ inverted (K (m - 1 - i)) (v (m - 1 - i))
  backward-at zero i l = absurd (omega arith)
  backward-at (suc m) zero l = let e : m ≡ suc m - 1 - 0 = omega arith in ap (λ k. inverted (K k) (v k)) e
  backward-at (suc m) (suc i) l =
      let e : m - 1 - i ≡ suc m - 1 - suc i = omega arith in backward-at m i (omega arith) ∙ ap (λ k. inverted (K k) (v k)) e

  backward-dim : ((i : ℕ) → (K i).dim ≡ 16) → (m i : ℕ) → (backward K v m i).dim ≡ 16
  backward-dim d zero i = d i
  backward-dim d (suc m) zero = d m
  backward-dim d (suc m) (suc i) = backward-dim d m i

-- ---- the code of a plan and the one that undoes it

module _ (p : Plan) where
  abbrev inverses : (i : ℕ) → Invertible (plan_kernel p i)
  inverses i = invertible (get_or p.kernels i 0)

  abbrev pub unframe : Code
  unframe = undoing (plan_kernel p) inverses (λ _. omega arith) p.layers

  pub undoes : UndoneBy (plan_code p) unframe
  undoes = layers-undone (plan_kernel p) inverses (λ _. omega arith) p.layers

  pub redoes : UndoneBy unframe (plan_code p)
  redoes = layers-redone (plan_kernel p) inverses (λ _. omega arith) p.layers

module _ (p : Plan) (known : bad_kernels p ≡ false) (tables : List (List ℕ)) where
  -- The word by the tables.
  word_rows : Tables p.layers (layer_table p) tables → (u : List Bool)
      → tabulate (symbol_count p) ((tables_code tables p.layers).word u) ≡ tabulate (symbol_count p) ((plan_code p).word u)
  word_rows t u = tabulate-cong (symbol_count p) (λ q _.
      layers-same (table_kernel tables) (plan_kernel p) (λ _. refl) (λ _. refl) p.layers (λ i l s j ls lj.
      ap (λ T. (table_kernel (T ∷ []) 0).entry s j) (t i l) ∙ table-row (get_or p.kernels i 0) s j (kernels-known p known i l) ls lj) u q)

  -- The symbols by the inverse tables in the other order.
  symbols-rows : Tables p.layers (undoing_table p) tables → (c : List Bool) → length c ≡ symbol_count p
      → tabulate (symbol_count p) ((tables_code tables p.layers).word c) ≡ symbols_in (plan_code p) c
  symbols-rows t c e =
      let m : ℕ = p.layers in
      let K = plan_kernel p in
      let v = inverses p in
      tabulate-cong (symbol_count p) (λ q _.
      layers-same (table_kernel tables) (backward K v m) (λ _. refl) (backward-dim K v (λ _. refl) m) m (λ i l s j ls lj.
      let k : ℕ = m - 1 - i in
      ap (λ T. (table_kernel (T ∷ []) 0).entry s j) (t i l)
      ∙ inverse-row (get_or p.kernels k 0) s j (kernels-known p known k (omega arith)) ls lj
      ∙ ap (λ (L : Kernel). L.entry s j) (sym (backward-at K v m i l))) c q)
      ∙ ap (λ n. tabulate n ((unframe p).word c)) (sym ((undoes p).there ∙ plan-size p))
      ∙ sym (symbols-are (plan_code p) (unframe p) (undoes p) (redoes p) c (e ∙ sym (plan-size p)))

-- ---- what the code makes

module _ (p : Plan) (layered : bad_layers p ≡ false) (known : bad_kernels p ≡ false) (tables : List (List ℕ)) (rows made : List ℕ) (u : List Bool) (n : ℕ)
    (long : length made ≡ 16 ^ (p.layers - 1)) (en : n ≡ 16 ^ (p.layers - 1)) (er : rows_bits n rows ≡ u)
    (h : rows_bits (16 ^ (p.layers - 1)) made ≡ tabulate (symbol_count p) ((tables_code tables p.layers).word (rows_bits (16 ^ (p.layers - 1)) rows))) where
  size : 2 * length made ≡ byte_count p
  size = ap (λ n. 2 * n) long ∙ sym (bytes-rows p layered)

  made_bits : rows_bits (length made) made ≡ tabulate (symbol_count p) ((tables_code tables p.layers).word u)
  made_bits = ap (λ n. rows_bits n made) long ∙ h ∙ ap (λ v. tabulate (symbol_count p) ((tables_code tables p.layers).word v)) (ap (λ k. rows_bits k rows) (sym en) ∙ er)

  -- Rows made of a payload's symbols by the kernels' tables, stored, are its word.
  pub word_made : Tables p.layers (layer_table p) tables → (mask payload out last : List ℕ) → u ≡ spread (unpack mask) (unpack payload)
      → last ≡ pack (2 * length made) (rows_bits (length made) made) ++ drop (2 * length made) out → last ≡ encoded_frame p mask payload ++ drop (byte_count p) out
  unfolding encoded_frame
  word_made t mask payload out last eu el =
      el
      ∙ ap₂ (λ n v. pack n v ++ drop n out) size (made_bits ∙ word_rows p known tables t u)
      ∙ ap (λ v. pack (byte_count p) (tabulate (symbol_count p) ((plan_code p).word v)) ++ drop (byte_count p) out) eu

  -- Rows made of a word by the inverse tables, stored, are its symbols.
  pub symbols-made : Tables p.layers (undoing_table p) tables → (word old stored : List ℕ) → u ≡ unpack word → length word ≡ byte_count p → length old ≡ byte_count p
      → stored ≡ pack (2 * length made) (rows_bits (length made) made) ++ drop (2 * length made) old → unpack stored ≡ frame_symbols p word
  unfolding frame_symbols
  symbols-made t word old stored eu lw lo es =
      let b = bytes_bits p layered in
      let k : length (rows_bits (length made) made) ≡ 8 * (2 * length made) = length-rows-bits (length made) made ∙ omega arith in
      let rest : drop (2 * length made) old ≡ [] = ap (λ k. drop k old) (size ∙ sym lo) ∙ drop-length old in
      ap unpack (es ∙ ap (λ r. pack (2 * length made) (rows_bits (length made) made) ++ r) rest ∙ append-nil (pack (2 * length made) (rows_bits (length made) made)))
      ∙ unpack-pack (2 * length made) (rows_bits (length made) made) k
      ∙ made_bits
      ∙ symbols-rows p known tables t u (ap length eu ∙ length-unpack word ∙ ap (λ k. 8 * k) lw ∙ b)
      ∙ ap (symbols_in (plan_code p)) eu
