use Rattle.std.proofs.Common.{refl, ap, ◌∙◌, ◌≡◌, ℕ, ◌-◌, ◌+◌, suc, arith}
use Rattle.lp_term.specs.Tables.{tree_at}
use Rattle.dk_write.proofs.ShortPlaces.{size-positive}
use Rattle.dk_write.proofs.GainedLaws.{gained_part, on_err_front}
use Rattle.dk_write.proofs.NodeLaws.{is_binder-written}
use Rattle.dk_write.proofs.FrameTexts.{sort_parts, variable_parts, symbol_parts, application_parts, abstraction_parts, product_parts}
use Rattle.dk_write.proofs.tree.write_seen.Goals as goal

next : (n : ℕ) → n + 1 ≡ suc n
next n = omega arith

pub returns-in_err-write-in-SortType-clause-err : goal.returns-in_err-write-in-SortType-clause-err
returns-in_err-write-in-SortType-clause-err g c =
    on_err_front _ _ _ _ _ _ _
    (sort_parts c.args.source.now c.args.before c.args.frames.now.frames c.args.seen.place c.args.seen.node c.requires.seen.written.tree c.in-SortType.is)
    c.in_err-write-in-SortType.ensures.err

pub returns-in_ok-write-in-SortType-clause-ok : goal.returns-in_ok-write-in-SortType-clause-ok
returns-in_ok-write-in-SortType-clause-ok g c =
    gained_part _ _ _ _ _ _ _
    (sort_parts c.args.source.now c.args.before c.args.frames.now.frames c.args.seen.place c.args.seen.node c.requires.seen.written.tree c.in-SortType.is)
    c.in_ok-write-in-SortType.ensures.ok

pub returns-in_ok-write-in-SortType-clause-less : goal.returns-in_ok-write-in-SortType-clause-less
returns-in_ok-write-in-SortType-clause-less g c = let s = size-positive (tree_at c.args.source.now.table c.args.seen.place.id.0) in omega (arith, s)

pub returns-in-SortKind-clause-less : goal.returns-in-SortKind-clause-less
returns-in-SortKind-clause-less g c = let s = size-positive (tree_at c.args.source.now.table c.args.seen.place.id.0) in omega (arith, s)

pub returns-in_err-write-in-Sym-clause-err : goal.returns-in_err-write-in-Sym-clause-err
returns-in_err-write-in-Sym-clause-err g c =
    on_err_front _ _ _ _ _ _ _
    (symbol_parts c.args.source.now c.args.before c.args.frames.now.frames c.args.seen.place c.args.seen.node c.in-Sym.symbol _ c.requires.seen.written.tree
    c.in-Sym.is c.symbol_name.ensures)
    c.in_err-write-in-Sym.ensures.err

pub returns-in_ok-write-in-Sym-clause-ok : goal.returns-in_ok-write-in-Sym-clause-ok
returns-in_ok-write-in-Sym-clause-ok g c =
    gained_part _ _ _ _ _ _ _
    (symbol_parts c.args.source.now c.args.before c.args.frames.now.frames c.args.seen.place c.args.seen.node c.in-Sym.symbol _ c.requires.seen.written.tree
    c.in-Sym.is c.symbol_name.ensures)
    c.in_ok-write-in-Sym.ensures.ok

pub returns-in_ok-write-in-Sym-clause-less : goal.returns-in_ok-write-in-Sym-clause-less
returns-in_ok-write-in-Sym-clause-less g c = let s = size-positive (tree_at c.args.source.now.table c.args.seen.place.id.0) in omega (arith, s)

pub returns-in_err-write_name-in-Var-clause-err : goal.returns-in_err-write_name-in-Var-clause-err
returns-in_err-write_name-in-Var-clause-err g c =
    on_err_front _ _ _ _ _ _ _
    (variable_parts c.args.source.now c.args.before c.args.frames.now.frames c.args.seen.place c.args.seen.node c.in-Var.number c.saturating_sub-binder.result
    c.requires.seen.written.tree c.in-Var.is
    (c.saturating_sub-binder.ensures ∙ ap (λ n. n - 1) (c.saturating_sub.ensures ∙ ap (λ n. n - c.in-Var.number) c.from.ensures)))
    c.in_err-write_name-in-Var.ensures.err

pub returns-in_ok-write_name-in-Var-clause-ok : goal.returns-in_ok-write_name-in-Var-clause-ok
returns-in_ok-write_name-in-Var-clause-ok g c =
    gained_part _ _ _ _ _ _ _
    (variable_parts c.args.source.now c.args.before c.args.frames.now.frames c.args.seen.place c.args.seen.node c.in-Var.number c.saturating_sub-binder.result
    c.requires.seen.written.tree c.in-Var.is
    (c.saturating_sub-binder.ensures ∙ ap (λ n. n - 1) (c.saturating_sub.ensures ∙ ap (λ n. n - c.in-Var.number) c.from.ensures)))
    c.in_ok-write_name-in-Var.ensures.ok

pub returns-in_ok-write_name-in-Var-clause-less : goal.returns-in_ok-write_name-in-Var-clause-less
returns-in_ok-write_name-in-Var-clause-less g c = let s = size-positive (tree_at c.args.source.now.table c.args.seen.place.id.0) in omega (arith, s)

pub returns-in_err-open_part-in-App-clause-err : goal.returns-in_err-open_part-in-App-clause-err
returns-in_err-open_part-in-App-clause-err g c =
    on_err_front _ _ _ _ _ _ _
    (application_parts c.args.source.now c.args.before c.args.frames.now.frames c.args.seen.place c.args.seen.node c.in-App.function c.in-App.argument
    c.is_binder-closes.result _ c.requires.seen.written.tree c.in-App.is
    (is_binder-written c.args.source.now c.args.before c.in-App.function _ _ c.written_node-node.ensures c.is_binder-closes.ensures) refl)
    c.in_err-open_part-in-App.ensures.err

pub returns-in_ok-open_part-in-App-clause-ok : goal.returns-in_ok-open_part-in-App-clause-ok
returns-in_ok-open_part-in-App-clause-ok g c =
    rw c.push.ensures.frames (gained_part _ _ _ _ _ _ _
    (application_parts c.args.source.now c.args.before c.args.frames.now.frames c.args.seen.place c.args.seen.node c.in-App.function c.in-App.argument
    c.is_binder-closes.result _ c.requires.seen.written.tree c.in-App.is
    (is_binder-written c.args.source.now c.args.before c.in-App.function _ _ c.written_node-node.ensures c.is_binder-closes.ensures) refl)
    c.in_ok-open_part-in-App.ensures.ok)

pub returns-in_err-write_binder-in-Lam-clause-err : goal.returns-in_err-write_binder-in-Lam-clause-err
returns-in_err-write_binder-in-Lam-clause-err g c =
    on_err_front _ _ _ _ _ _ _
    (abstraction_parts c.args.source.now c.args.before c.args.frames.now.frames c.args.seen.place c.args.seen.node c.in-Lam.domain c.in-Lam.body
    (c.args.seen.place.depth + 1)
    c.is_binder-closes-in-Lam.result c.requires.seen.written.tree c.in-Lam.is
    (is_binder-written c.args.source.now c.args.before c.in-Lam.domain _ _ c.written_node-node-in-Lam.ensures c.is_binder-closes-in-Lam.ensures)
    (next c.args.seen.place.depth))
    c.in_err-write_binder-in-Lam.ensures.err

pub returns-in_ok-write_binder-in-Lam-clause-ok : goal.returns-in_ok-write_binder-in-Lam-clause-ok
returns-in_ok-write_binder-in-Lam-clause-ok g c =
    rw c.push-in-Lam.ensures.frames (gained_part _ _ _ _ _ _ _
    (abstraction_parts c.args.source.now c.args.before c.args.frames.now.frames c.args.seen.place c.args.seen.node c.in-Lam.domain c.in-Lam.body
    (c.args.seen.place.depth + 1)
    c.is_binder-closes-in-Lam.result c.requires.seen.written.tree c.in-Lam.is
    (is_binder-written c.args.source.now c.args.before c.in-Lam.domain _ _ c.written_node-node-in-Lam.ensures c.is_binder-closes-in-Lam.ensures)
    (next c.args.seen.place.depth))
    c.in_ok-write_binder-in-Lam.ensures.ok)

pub returns-in_err-write_binder-in-Pi-clause-err : goal.returns-in_err-write_binder-in-Pi-clause-err
returns-in_err-write_binder-in-Pi-clause-err g c =
    on_err_front _ _ _ _ _ _ _
    (product_parts c.args.source.now c.args.before c.args.frames.now.frames c.args.seen.place c.args.seen.node c.in-Pi.domain c.in-Pi.body
    (c.args.seen.place.depth + 1)
    c.is_binder-closes-in-Pi.result c.requires.seen.written.tree c.in-Pi.is
    (is_binder-written c.args.source.now c.args.before c.in-Pi.domain _ _ c.written_node-node-in-Pi.ensures c.is_binder-closes-in-Pi.ensures)
    (next c.args.seen.place.depth))
    c.in_err-write_binder-in-Pi.ensures.err

pub returns-in_ok-write_binder-in-Pi-clause-ok : goal.returns-in_ok-write_binder-in-Pi-clause-ok
returns-in_ok-write_binder-in-Pi-clause-ok g c =
    rw c.push-in-Pi.ensures.frames (gained_part _ _ _ _ _ _ _
    (product_parts c.args.source.now c.args.before c.args.frames.now.frames c.args.seen.place c.args.seen.node c.in-Pi.domain c.in-Pi.body
    (c.args.seen.place.depth + 1)
    c.is_binder-closes-in-Pi.result c.requires.seen.written.tree c.in-Pi.is
    (is_binder-written c.args.source.now c.args.before c.in-Pi.domain _ _ c.written_node-node-in-Pi.ensures c.is_binder-closes-in-Pi.ensures)
    (next c.args.seen.place.depth))
    c.in_ok-write_binder-in-Pi.ensures.ok)
