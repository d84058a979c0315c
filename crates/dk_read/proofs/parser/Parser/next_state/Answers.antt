use Rattle.std.proofs.Common.{◌∙◌, subst}
use Rattle.lp_term.specs.TableLaws.{Keeps-refl}
use Rattle.dk_read.specs.declared.terms.State.TheVariants as state
use Rattle.dk_read.specs.declared.terms.Token.TheVariants as token
use Rattle.dk_read.specs.Names.{name_at}
use Rattle.dk_read.specs.States.{before, frames_of, head_of, state_in, IsStateKnown, IsTokenKnown}
use Rattle.dk_laws.specs.ReadingOrder.{IsState}
use Rattle.dk_read.proofs.Declared.{becomes_as, first_becomes, no_colon, at_state, at_token, term_begins, name_wanted, colon_wanted}
use Rattle.dk_read.proofs.parser.Parser.next_state.Goals as goal

pub apply-requires : goal.apply-requires
apply-requires c =
    let p = c.args.self.now in
    record {
      sound = c.requires.reading.ready.sound;
      function = subst (IsStateKnown p) c.in-InApplication.is c.requires.reading.ready.known;
      ordered = subst (λ s. IsState (before p) (state_in p s)) c.in-InApplication.is c.requires.reading.ordered;
      token = c.requires.token;
    }

pub returns-in-InApplication : goal.returns-in-InApplication
returns-in-InApplication c = record {
  becomes = becomes_as _ _ c.apply.new.self c.apply.result
      (at_state c.args.self.now (state.InApplication c.in-InApplication.function) c.args.place c.args.token c.in-InApplication.is) c.apply.ensures.becomes;
  ready = c.apply.ensures.ready;
  keeps = c.apply.ensures.keeps;
}

pub returns-in-Name : goal.returns-in-Name
returns-in-Name c = record {
  becomes = at_token c.args.self.now state.AtTerm c.args.place c.args.token (token.Name c.in-Name.name) c.in-AtTerm.is c.in-Name.is;
  ready = record { sound = c.requires.reading.ready.sound; known = subst (IsTokenKnown c.args.self.now.names) c.in-Name.is c.requires.token };
  keeps = Keeps-refl c.args.self.now.module.table;
}

pub returns-in_default : goal.returns-in_default
returns-in_default c =
    let p = c.args.self.now in
    record {
      becomes = becomes_as _ _ c.apply-in_default.new.self c.apply-in_default.result
          (at_state p state.AtTerm c.args.place c.args.token c.in-AtTerm.is
          ∙ term_begins (before p) (head_of p) (frames_of p) c.args.place p.names c.args.token c.in_default.not-Name) c.apply-in_default.ensures.becomes;
      ready = c.apply-in_default.ensures.ready;
      keeps = c.apply-in_default.ensures.keeps;
    }

pub returns-in_default-token : goal.returns-in_default-token
returns-in_default-token c = record {
  becomes = becomes_as _ _ c.after_first.new.self c.after_first.result
      (first_becomes c.args.self.now c.args.self.now.state c.in-AfterFirst.first c.args.place c.in-AfterFirst.name c.args.token c.in-AfterFirst.is
      (no_colon c.args.token c.in_default-token.not-Colon)) c.after_first.ensures.becomes;
  ready = c.after_first.ensures.ready;
  keeps = c.after_first.ensures.keeps;
}

pub returns-in-Between : goal.returns-in-Between
returns-in-Between c = record {
  becomes = becomes_as _ _ c.begin.new.self c.begin.result (at_state c.args.self.now state.Between c.args.place c.args.token c.in-Between.is)
      c.begin.ensures.becomes;
  ready = c.begin.ensures.ready;
  keeps = c.begin.ensures.keeps;
}

pub returns-in-Name-token : goal.returns-in-Name-token
returns-in-Name-token c = record {
  becomes = becomes_as _ _ c.name.new.self c.name.result
      (at_token c.args.self.now (state.AfterKeyword c.in-AfterKeyword.form) c.args.place c.args.token (token.Name c.in-Name-token.name) c.in-AfterKeyword.is
      c.in-Name-token.is) c.name.ensures.becomes;
  ready = c.name.ensures.ready;
  keeps = c.name.ensures.keeps;
}

pub returns-in_default-token-2 : goal.returns-in_default-token-2
returns-in_default-token-2 c =
    let p = c.args.self.now in
    record {
      becomes = at_state p (state.AfterKeyword c.in-AfterKeyword.form) c.args.place c.args.token c.in-AfterKeyword.is
          ∙ name_wanted (before p) c.in-AfterKeyword.form c.args.place p.names c.args.token c.in_default-token-2.not-Name;
      ready = tt;
      keeps = tt;
    }

pub returns-in_default-token-3 : goal.returns-in_default-token-3
returns-in_default-token-3 c =
    let p = c.args.self.now in
    record {
      becomes = at_state p (state.AfterName c.in-AfterName.form c.in-AfterName.name) c.args.place c.args.token c.in-AfterName.is
          ∙ colon_wanted (before p) c.in-AfterName.form (name_at p.names c.in-AfterName.name) c.args.place p.names c.args.token c.in_default-token-3.not-Colon;
      ready = tt;
      keeps = tt;
    }
