use Rattle.std.proofs.Common.{◌+◌, [], ◌∷◌, length, drop, arith, refl, sym, ap, subst, ◌∙◌}
use Rattle.std.proofs.lemmas.List.{drop_more, length-map, drop_all}
use Rattle.hol_spec.specs.Proofs.{symbols_of}
use Rattle.hol_defs.specs.Symbols.{symbol_at}
use Rattle.translate_reach.specs.MadeItems.{AreTaken}
use Rattle.translate_reach.proofs.Listed.{none-AreListed}
use Rattle.translate_reach.proofs.Taking.{kinds-IsSymbol, symbol-within, step-taken, symbol-taken, all-taken}
use Rattle.translate_reach.proofs.items.Items.of.Goals as goal
use Rattle.translate_reach.proofs.items.Items.of.Goals.{in-Step+in_ok-take_step-in-Step, in-InputConst+in_ok-take_symbol-in-InputConst}

pub loop-one-init : goal.loop-one-init
loop-one-init c =
    let p = c.args.proof.now in
    record {
      front = [];
      symbols = symbols_of p.made;
      whole = sym c.made-one-items.ensures;
      listed = none-AreListed p _ c.new.ensures.empty c.new-2.ensures.items c.new-3.ensures.items;
      count = refl;
    }

pub take_symbol-requires : goal.take_symbol-requires
take_symbol-requires c =
    let p = c.args.proof.now in
    let ms = c.made-one-items.result.now in
    let i = c.loop-one.one-index in
    let m = c.one-item.result in
    let from = drop_more ms i m (omega (arith, c.loop-one-test.true)) ∙ ap (λ y. y ∷ drop (i + 1) ms) (sym c.one-item.is) in
    symbol-within p m (drop (i + 1) ms) c.loop-one.items c.loop-one.symbol (kinds-IsSymbol m c.in-InputConst.is)
    (subst (λ l. AreTaken p l c.loop-one.items c.loop-one.symbol) from c.loop-one.invariant)

pub overflow_add-symbol : goal.overflow_add-symbol
overflow_add-symbol c =
    let p = c.args.proof.now in
    let ms = c.made-one-items.result.now in
    let i = c.loop-one.one-index in
    let m = c.one-item.result in
    let from = drop_more ms i m (omega (arith, c.loop-one-test.true)) ∙ ap (λ y. y ∷ drop (i + 1) ms) (sym c.one-item.is) in
    let within = symbol-within p m (drop (i + 1) ms) c.loop-one.items c.loop-one.symbol (kinds-IsSymbol m c.in-InputConst.is)
    (subst (λ l. AreTaken p l c.loop-one.items c.loop-one.symbol) from c.loop-one.invariant) in
    let count = sym (ap length c.symbols-symbols.ensures.are) ∙ length-map c.symbols-symbols.result.now (symbol_at p.trees) in
    let all = c.count-count.ensures in
    omega (arith, within, count, all, c.count-count.type_inv)

pub loop-one-preserved : goal.loop-one-preserved
loop-one-preserved c =
    let p = c.args.proof.now in
    let ms = c.made-one-items.result.now in
    let i = c.loop-one.one-index in
    let m = c.one-item.result in
    let from = drop_more ms i m (omega (arith, c.loop-one-test.true)) ∙ ap (λ y. y ∷ drop (i + 1) ms) (sym c.one-item.is) in
    let h = subst (λ l. AreTaken p l c.loop-one.items c.loop-one.symbol) from c.loop-one.invariant in
    elim c.match-one.branch [
      | in-Step+in_ok-take_step-in-Step w ↦
          rw (w.items-is, w.symbol-is)
          (step-taken p c.is_proof.ensures c.requires.order w.in-Step.field-0 (drop (i + 1) ms) c.loop-one.items w.take_step.new.self c.loop-one.symbol
          (subst (λ y. AreTaken p (y ∷ drop (i + 1) ms) c.loop-one.items c.loop-one.symbol) w.in-Step.is h) w.in_ok-take_step-in-Step.ensures)
      | in-InputConst+in_ok-take_symbol-in-InputConst w ↦
          rw (w.items-is, w.symbol-is)
          (symbol-taken p c.is_proof.ensures c.requires.order m (drop (i + 1) ms) c.loop-one.items w.take_symbol.new.self c.loop-one.symbol
          (kinds-IsSymbol m w.in-InputConst.is) h w.in_ok-take_symbol-in-InputConst.ensures)
    ]

pub returns : goal.returns
returns c =
    let p = c.args.proof.now in
    all-taken p c.loop-one.items c.loop-one.symbol
    (subst (λ l. AreTaken p l c.loop-one.items c.loop-one.symbol) (drop_all c.loop-one.one-index c.made-one-items.result.now c.loop-one-test.false)
    c.loop-one.invariant)
