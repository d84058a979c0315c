use Rattle.std.proofs.Common.{◌∙◌, ap, subst}
use Rattle.lp_spec.specs.Trees.{SortType}
use Rattle.lp_term.specs.Tables.{tree_at}
use Rattle.lp_spec.specs.ReadingFaults as reading
use Rattle.dk_laws.specs.ReadingOrder.{IsState}
use Rattle.dk_read.specs.declared.terms.State.TheVariants as state
use Rattle.dk_read.specs.States.{before, frames_of, head_of, state_in, token_in, tree_in, IsIdKnown}
use Rattle.dk_read.proofs.Declared.{becomes_as, grown_atom, name_applies, type_applies, held_is, sign_after, nothing_applies}
use Rattle.dk_read.proofs.Kept.{kept_on}
use Rattle.dk_read.proofs.parser.Parser.apply.Goals as goal

pub returns-in_ok-atom-in-Name-clause-becomes : goal.returns-in_ok-atom-in-Name-clause-becomes
returns-in_ok-atom-in-Name-clause-becomes c =
    let old = c.args.self.now in
    let one = c.meaning.new.self in
    let x = tree_at one.module.table c.in_ok-atom-in-Name.atom.0 in
    becomes_as _ _ c.argue.new.self c.argue.result
    (name_applies (before old) (head_of old) (frames_of old) (tree_in old.module.table c.args.function) c.args.place old.names c.args.token c.in-Name.name x
    c.in-Name.is c.in_ok-atom-in-Name.ensures.means
    ∙ grown_atom old one c.args.function x c.meaning.ensures.grows c.requires.function)
    c.argue.ensures.becomes

pub returns-in_ok-atom-in-TypeWord-clause-becomes : goal.returns-in_ok-atom-in-TypeWord-clause-becomes
returns-in_ok-atom-in-TypeWord-clause-becomes c =
    let old = c.args.self.now in
    let one = c.node.new.self in
    let x = tree_at one.module.table c.in_ok-atom-in-TypeWord.atom.0 in
    becomes_as _ _ c.argue-in-TypeWord.new.self c.argue-in-TypeWord.result
    (type_applies (before old) (head_of old) (frames_of old) (tree_in old.module.table c.args.function) c.args.place old.names c.args.token x c.in-TypeWord.is
    (held_is one.module.table c.in_ok-atom-in-TypeWord.atom.0 SortType c.in_ok-atom-in-TypeWord.ensures.made)
    ∙ grown_atom old one c.args.function x c.node.ensures.grows c.requires.function)
    c.argue-in-TypeWord.ensures.becomes

pub end_application-requires : goal.end_application-requires
end_application-requires c =
    let p = c.args.self.now in
    record {
      sound = c.requires.sound;
      tree = subst (IsIdKnown p.module.table) c.in-Some.is c.requires.function;
      ordered = subst (λ f. IsState (before p) (state_in p (state.InApplication f))) c.in-Some.is c.requires.ordered;
      sign = sign_after c.args.token c.in_default.not-Name c.in_default.not-TypeWord c.in_default.not-LeftParen;
    }

pub returns-in-Some : goal.returns-in-Some
returns-in-Some c =
    let p = c.args.self.now in
    record {
      becomes = becomes_as _ _ c.end_application.new.self c.end_application.result
          (ap (λ f. reading.applies (before p) (head_of p) (frames_of p) (tree_in p.module.table f) c.args.place (token_in p.names c.args.token)) c.in-Some.is)
          c.end_application.ensures.becomes;
      ready = c.end_application.ensures.ready;
      keeps = c.end_application.ensures.keeps;
    }

pub returns-in-None : goal.returns-in-None
returns-in-None c =
    let p = c.args.self.now in
    record {
      becomes =
          ap (λ f. reading.applies (before p) (head_of p) (frames_of p) (tree_in p.module.table f) c.args.place (token_in p.names c.args.token)) c.in-None.is
          ∙ nothing_applies (before p) (head_of p) (frames_of p) c.args.place p.names c.args.token
          (sign_after c.args.token c.in_default.not-Name c.in_default.not-TypeWord c.in_default.not-LeftParen);
      ready = tt;
      keeps = tt;
    }

pub returns-in_ok-atom-in-Name-clause-keeps : goal.returns-in_ok-atom-in-Name-clause-keeps
returns-in_ok-atom-in-Name-clause-keeps c = kept_on c.argue.result c.argue.new.self.module.table c.meaning.ensures.grows.keeps c.argue.ensures.keeps

pub returns-in_ok-atom-in-TypeWord-clause-keeps : goal.returns-in_ok-atom-in-TypeWord-clause-keeps
returns-in_ok-atom-in-TypeWord-clause-keeps c = kept_on c.argue-in-TypeWord.result c.argue-in-TypeWord.new.self.module.table c.node.ensures.grows.keeps
    c.argue-in-TypeWord.ensures.keeps
