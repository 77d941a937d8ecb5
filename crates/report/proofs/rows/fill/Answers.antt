-- `report::rows::fill` meets its contract: what was read so far is what the reader has lost. Assumes nothing.
use mathlib.Core.Path.{◌≡◌, sym, ap, ◌∙◌, subst}
use mathlib.Core.List.{List, ◌++◌, append_assoc}
use Prim.Native.Nat.{ℕ, ◌+◌, ◌-◌, ◌≤◌}
use native.Mathlib.Omega.{arith}
use borrow.Rule.Slice.PartMut.{put_mid, post_of, same_len_mid}
use lib.ListN.{length, take, drop, length-append, length-drop, take-append-drop}
use lib.Seq.{length-take-le, take_at}
use Rattle.std.specs.Prelude.{Option, None, Some}
use Rattle.std.specs.Io.KnownBytes.{Consumes}
use Rattle.report.proofs.rows.fill.Goals as goal

-- Bytes after bytes are lost.
consumes_more : (old mid new : Option (List ℕ)) (xs ys : List ℕ) → Consumes old mid xs → Consumes mid new ys → Consumes old new (xs ++ ys)
consumes_more None mid new xs ys p q = tt
consumes_more (Some a) None new xs ys p q = absurd p
consumes_more (Some a) (Some b) None xs ys p q = absurd q
consumes_more (Some a) (Some b) (Some c) xs ys p q = p ∙ ap (λ (l : List ℕ). xs ++ l) q ∙ sym (append_assoc xs ys c)

-- The front of a buffer after n bytes were written from d on.
taken : (d n k : ℕ) (xs ys : List ℕ) → d ≤ length xs → n ≤ length ys → take (d + n) (put_mid d k xs ys) ≡ take d xs ++ take n ys
taken d n k xs ys l m =
    let post = post_of d k xs in
    ap (take (d + n))
    (ap (λ (q : List ℕ). take d xs ++ (q ++ post)) (sym (take-append-drop n ys))
    ∙ ap (λ (q : List ℕ). take d xs ++ q) (append_assoc (take n ys) (drop n ys) post)
    ∙ sym (append_assoc (take d xs) (take n ys) (drop n ys ++ post)))
    ∙ take_at (take d xs ++ take n ys) (drop n ys ++ post) (d + n) (omega (arith, length-append (take d xs) (take n ys), length-take-le d xs l, length-take-le n ys m))

pub loop-done-preserved : goal.loop-done-preserved
loop-done-preserved g c =
    let d = c.loop-done.done in
    let xs = c.loop-done.buffer in
    let ys = c.read.new.buf in
    let k = length xs - d in
    let old = g.R.Read.remaining c.args.input.now in
    let mid = g.R.Read.remaining c.loop-done.input in
    let new = g.R.Read.remaining c.read.new.self in
    let n = c.in-Ok.ensures.bound.0 in (
      omega (arith, n, c.read.auto.buf, same_len_mid d k xs ys c.read.auto.buf, length-take-le k (drop d xs) (omega (arith, length-drop d xs)), c.loop-done.invariant.0),
      subst (Consumes old new) (sym (taken d c.in-Ok.n k xs ys c.loop-done.invariant.0 n)) (consumes_more old mid new _ _ c.loop-done.invariant.1 c.in-Ok.ensures.bytes.0),
    )
