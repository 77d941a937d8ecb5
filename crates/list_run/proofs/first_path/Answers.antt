-- `list_run::first_path` meets its contract. Assumes nothing.
use mathlib.Core.Path.{refl, subst⁻¹}
use mathlib.Core.List.{[]}
use Rattle.bits.specs.Packed.{bits, unpack}
use Rattle.path.specs.Path.{HasSymbols}
use Rattle.list_run.proofs.first_path.Goals as goal

pub returns : goal.returns
unfolding unpack bits
returns c =
    let h = c.store.ensures in
    record {
      path = subst⁻¹ (HasSymbols []) h.1 refl;
      rest = (h.0, h.3);
    }
