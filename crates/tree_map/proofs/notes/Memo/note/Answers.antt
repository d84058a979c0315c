use Rattle.std.proofs.Common.{◌∙◌}
use Rattle.tree_map.proofs.Noting.{push-noted, push-new, push-kept, put-noted, put-new, put-kept}
use Rattle.tree_map.proofs.notes.Memo.note.Goals as goal

pub returns-then-len-lt-FEW-clause-noted : goal.returns-then-len-lt-FEW-clause-noted
returns-then-len-lt-FEW-clause-noted g c =
    push-noted c.self.inside.many.entries c.self.inside.few.items c.push.new.self.items c.args.self.now c.args.key c.args.value c.self.view_is
    c.in_ok-push.ensures.items

pub returns-then-len-lt-FEW-clause-new : goal.returns-then-len-lt-FEW-clause-new
returns-then-len-lt-FEW-clause-new g c =
    push-new c.self.inside.many.entries c.self.inside.few.items c.push.new.self.items c.args.self.now c.args.key c.args.value c.self.view_is
    c.in_ok-push.ensures.items

pub returns-then-len-lt-FEW-clause-kept : goal.returns-then-len-lt-FEW-clause-kept
returns-then-len-lt-FEW-clause-kept g c =
    push-kept c.self.inside.many.entries c.self.inside.few.items c.push.new.self.items c.args.self.now c.args.key c.args.value c.self.view_is
    c.in_ok-push.ensures.items

pub returns-clause-noted : goal.returns-clause-noted
returns-clause-noted g c =
    put-noted g.K.Ord.cmp (λ x y h. g.met.K.Key.exact x y (g.met.K.Ord.matches_eq x y ∙ h)) c.self.inside.many.entries c.self.inside.few.items
    c.insert.new.self.entries c.args.self.now
    c.args.key c.args.value c.self.view_is c.in_ok-insert.ensures.entries

pub returns-clause-new : goal.returns-clause-new
returns-clause-new g c =
    put-new g.K.Ord.cmp (λ x y h. g.met.K.Key.exact x y (g.met.K.Ord.matches_eq x y ∙ h)) c.self.inside.many.entries c.self.inside.few.items
    c.insert.new.self.entries c.args.self.now
    c.args.key c.args.value c.self.view_is c.in_ok-insert.ensures.entries

pub returns-clause-kept : goal.returns-clause-kept
returns-clause-kept g c =
    put-kept g.K.Ord.cmp (λ x y h. g.met.K.Key.exact x y (g.met.K.Ord.matches_eq x y ∙ h)) c.self.inside.many.entries c.self.inside.few.items
    c.insert.new.self.entries c.args.self.now
    c.args.key c.args.value c.self.view_is c.in_ok-insert.ensures.entries
