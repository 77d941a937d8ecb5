-- `agreeing::path_payload` meets its contract: it gathers the symbols of the record. Assumes nothing.
use mathlib.Core.Path.{◌≡◌, sym, ap, ◌∙◌}
use mathlib.Core.List.{◌++◌}
use Prim.Native.Nat.{◌/◌}
use native.Mathlib.Omega.{arith}
use lib.ListN.{length, drop}
use Rattle.bits.specs.Packed.{unpack}
use Rattle.mask.specs.Mask.{marked}
use Rattle.path.specs.declared.Path.{Path}
use Rattle.agreeing.specs.Agreeing.{payload_of}
use borrow.Author.Rules.{rules}
use Rattle.agreeing.proofs.path_payload.Goals as goal

pub gather-requires : goal.gather-requires
unfolding marked
gather-requires c =
    let z = c in
    let n : length c.load-p.result.symbols ≡ 32 = search rules in
    record {
      mask_len_bound = (omega (arith, z.requires.2), n ∙ sym z.requires.2);
      mask_bound = z.requires.3;
    }

pub returns : goal.returns
unfolding marked
returns c =
    let a = c.args in
    let l = c.load-p in record {
      paid = ap (λ (q : Path). q.penalty) l.ensures;
      payload = c.gather.ensures ∙ ap (λ (q : Path). payload_of a.mask.now (unpack q.symbols) ++ drop (marked a.mask.now / 8) a.out.now) l.ensures;
    }
