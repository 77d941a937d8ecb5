-- A plan of two layers: how many symbols it has, and its code beside that of its inner and outer kernel. Assumes nothing.
use mathlib.Core.Path.{◌≡◌, sym, ap, ap₂, ◌∙◌, subst⁻¹}
use mathlib.Core.Bool.{Bool}
use mathlib.Core.List.{List}
use Prim.Native.Nat.{ℕ, ◌^◌}
use lib.IntN.{ℤ}
use lib.ListN.{get_or}
use Rattle.base.specs.Bit.{bit}
use Rattle.bits.specs.Packed.{unpack}
use Rattle.polar.specs.Code.{channel, least}
use Rattle.polar.specs.Frame.{layers}
use Rattle.polar.proofs.Alike.{Alike, alike-least}
use Rattle.polar.proofs.Layers.{frame-layers}
use Rattle.list.specs.Paths.{paths}
use Rattle.list.proofs.Paths.{alike-paths}
use Rattle.plan.specs.declared.Plan.{Plan}
use Rattle.plan.specs.Plan.{plan_kernel, plan_code, symbol_count}
use Rattle.grid.specs.Grid.{rows_bits}
use Rattle.plan.specs.Pairs.{frame_code}
use Rattle.list_run.specs.Run.{frame_paths}
use Rattle.list_decode.specs.Jobs.{final_paths, final_penalty}

-- The numbers of the inner and the outer kernel.
abbrev pub inner : Plan → ℕ
inner p = get_or p.kernels 0 0

abbrev pub outer : Plan → ℕ
outer p = get_or p.kernels 1 0

module _ (p : Plan) (two : p.layers ≡ 2) where
  pub two-symbols : symbol_count p ≡ 256
  two-symbols = ap (λ m. 16 ^ m) two

  two-layers : Alike (plan_code p) (frame_code (inner p) (outer p))
  two-layers = subst⁻¹ (λ m. Alike (layers (plan_kernel p) m) (frame_code (inner p) (outer p))) two (frame-layers (plan_kernel p))

  -- What a path pays is what it pays in the frame of the two,
  pub two-least : (values : List ℤ) (u : List Bool) → final_penalty p values u ≡ least (frame_code (inner p) (outer p)) (channel values) u
  two-least values u = alike-least (plan_code p) (frame_code (inner p) (outer p)) two-layers (channel values) u

  -- and the final paths are those of that frame.
  pub two-paths : (L : ℕ) (values : List ℤ) (mask marks : List ℕ) → rows_bits 16 marks ≡ unpack mask → frame_paths (inner p) (outer p) L values marks 256 ≡ final_paths p L values mask
  two-paths L values mask marks e =
      ap₂ (λ (w : List Bool) n. paths (frame_code (inner p) (outer p)) (channel values) (bit w) L n) e (sym two-symbols)
      ∙ sym (alike-paths (plan_code p) (frame_code (inner p) (outer p)) two-layers (channel values) (bit (unpack mask)) L (symbol_count p))
