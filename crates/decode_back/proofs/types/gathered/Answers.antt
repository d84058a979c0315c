use Rattle.std.proofs.Common.{ap, arith, length, ◌++◌, ◌∷◌, [], ◌∙◌, append_assoc, sym}
use Rattle.std.proofs.lemmas.List.{length-append}
use Rattle.decode_back.proofs.types.gathered.Goals as goal

pub take-requires : goal.take-requires
take-requires c =
    let is = ap length c.loop.invariant.0 in
    let all = length-append c.loop.args.items c.loop.made in
    omega (arith, is, all, c.loop.invariant.1, c.requires, c.loop-test.true)

pub loop-preserved : goal.loop-preserved
loop-preserved c =
    let pushed = c.in_ok-push.ensures.items in
    let more = ap length pushed in
    let long = length-append c.loop.args.items (c.take.result ∷ []) in
    let old = c.loop.invariant.1 in (
      c.loop.invariant.0 ∙ ap (λ l. c.loop.args.items ++ l) c.take.ensures ∙ sym (append_assoc c.loop.args.items (c.take.result ∷ []) c.take.new.made)
          ∙ ap (λ l. l ++ c.take.new.made) (sym pushed),
      omega (arith, more, long, old),
    )
