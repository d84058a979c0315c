use Rattle.std.proofs.Common.{subst, length}
use Rattle.lp_spec.specs.Trees.{App, Lam, Pi}
use Rattle.lp_term.specs.Tables.{PartsBelow}
use Rattle.translate_rule.proofs.LemmaLaws.{places-known, places-trees}
use Rattle.translate_rule.proofs.lemmas.numbered.Goals as goal

pub returns-in-App-clause-known : goal.returns-in-App-clause-known
returns-in-App-clause-known c = λ trees h. places-known trees c.args.ids.now c.in-App.f.0 c.in-App.x.0 _
    (subst (PartsBelow (length c.args.ids.now)) c.in-App.is c.requires) h

pub returns-in-App-clause-made : goal.returns-in-App-clause-made
returns-in-App-clause-made c = λ trees h. rw c.in-App.is
    (places-trees App trees c.args.ids.now c.in-App.f.0 c.in-App.x.0 _ (subst (PartsBelow (length c.args.ids.now)) c.in-App.is c.requires) h)

pub returns-in-Lam-clause-known : goal.returns-in-Lam-clause-known
returns-in-Lam-clause-known c = λ trees h. places-known trees c.args.ids.now c.in-Lam.a.0 c.in-Lam.b.0 _
    (subst (PartsBelow (length c.args.ids.now)) c.in-Lam.is c.requires) h

pub returns-in-Lam-clause-made : goal.returns-in-Lam-clause-made
returns-in-Lam-clause-made c = λ trees h. rw c.in-Lam.is
    (places-trees Lam trees c.args.ids.now c.in-Lam.a.0 c.in-Lam.b.0 _ (subst (PartsBelow (length c.args.ids.now)) c.in-Lam.is c.requires) h)

pub returns-in-Pi-clause-known : goal.returns-in-Pi-clause-known
returns-in-Pi-clause-known c = λ trees h. places-known trees c.args.ids.now c.in-Pi.a.0 c.in-Pi.b.0 _
    (subst (PartsBelow (length c.args.ids.now)) c.in-Pi.is c.requires) h

pub returns-in-Pi-clause-made : goal.returns-in-Pi-clause-made
returns-in-Pi-clause-made c = λ trees h. rw c.in-Pi.is
    (places-trees Pi trees c.args.ids.now c.in-Pi.a.0 c.in-Pi.b.0 _ (subst (PartsBelow (length c.args.ids.now)) c.in-Pi.is c.requires) h)
