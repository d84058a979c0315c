use Rattle.std.proofs.Common.{◌∙◌, ◌-◌, refl, sym, ap, Some}
use Rattle.lp_spec.specs.Trees.{Var}
use Rattle.dk_read.specs.declared.terms.Meaning.TheVariants as meaning
use Rattle.dk_read.specs.Names.{name_at}
use Rattle.lp_spec.specs.ShortNames.{named_tree}
use Rattle.dk_read.specs.States.{before}
use Rattle.dk_read.proofs.Meanings.{meaning_is, meaning_within, means_made}
use Rattle.dk_read.proofs.parser.Parser.meaning.Goals as goal

pub returns-in-Binder-clause-means : goal.returns-in-Binder-clause-means
returns-in-Binder-clause-means c =
    let p = c.args.self.now in
    means_made _ c.args.place (name_at p.names c.args.name) c.variable.new.self (Var c.saturating_sub-number.result) c.variable.result
    (meaning_is p c.args.name (meaning.Binder c.in-Binder.level) c.requires.sound c.in-Binder.ensures
    ∙ ap (λ i. Some (Var i)) (sym (c.saturating_sub-number.ensures ∙ ap (λ i. i - 1) c.saturating_sub.ensures)))
    c.variable.ensures.made c.variable.ensures.memory

pub named-requires-clause-declared : goal.named-requires-clause-declared
named-requires-clause-declared c = meaning_within c.args.self.now c.args.name c.in-Symbol.symbol c.requires.sound c.in-Symbol.ensures

pub returns-in-Symbol-clause-means : goal.returns-in-Symbol-clause-means
returns-in-Symbol-clause-means c =
    let p = c.args.self.now in
    means_made _ c.args.place (name_at p.names c.args.name) c.named.new.self (named_tree (before p) c.in-Symbol.symbol) c.named.result
    (meaning_is p c.args.name (meaning.Symbol c.in-Symbol.symbol) c.requires.sound c.in-Symbol.ensures)
    c.named.ensures.made c.named.ensures.memory

pub returns-in-Nothing-clause-means : goal.returns-in-Nothing-clause-means
returns-in-Nothing-clause-means c =
    let p = c.args.self.now in
    (meaning_is p c.args.name meaning.Nothing c.requires.sound c.in-Nothing.ensures, refl)
