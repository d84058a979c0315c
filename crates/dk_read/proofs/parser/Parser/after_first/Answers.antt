use Rattle.lp_term.specs.Tables.{tree_at}
use Rattle.dk_read.specs.Names.{name_at}
use Rattle.dk_read.specs.States.{before, frames_of, head_of, token_in}
use Rattle.dk_read.proofs.Meanings.{after_unknown}
use Rattle.dk_read.proofs.Declared.{becomes_as, first_ordered, first_applies, token-Grows, IsTokenKnown-longer}
use Rattle.dk_read.proofs.Kept.{kept_on}
use Rattle.dk_read.proofs.parser.Parser.after_first.Goals as goal

pub apply-requires : goal.apply-requires
apply-requires c =
    let old = c.args.self.now in
    let one = c.meaning.new.self in
    let grows = c.meaning.ensures.grows in
    record {
      sound = grows.sound c.requires.sound;
      function = c.in-Ok.ensures.known;
      ordered = first_ordered old one (name_at old.names c.args.name) (tree_at one.module.table c.in-Ok.atom.0) c.args.first c.requires.sound.is_module grows
          c.requires.ordered c.in-Ok.ensures.means;
      token = IsTokenKnown-longer old.names one.names c.args.token grows.names.longer c.requires.token;
    }

pub returns-in-Ok : goal.returns-in-Ok
returns-in-Ok c =
    let old = c.args.self.now in
    let one = c.meaning.new.self in
    let grows = c.meaning.ensures.grows in
    record {
      becomes = becomes_as _ _ c.apply.new.self c.apply.result
          (first_applies old one (name_at old.names c.args.name) (tree_at one.module.table c.in-Ok.atom.0) c.args.first c.args.place
          (token_in old.names c.args.token) (token_in one.names c.args.token) grows c.in-Ok.ensures.means
          (token-Grows old.names one.names c.args.token grows.names.stays c.requires.token))
          c.apply.ensures.becomes;
      ready = c.apply.ensures.ready;
      keeps = kept_on c.apply.result c.apply.new.self.module.table grows.keeps c.apply.ensures.keeps;
    }

pub returns-in-Err : goal.returns-in-Err
returns-in-Err c =
    let old = c.args.self.now in
    record {
      becomes = after_unknown (before old) (head_of old) (frames_of old) c.args.first c.args.place (name_at old.names c.args.name)
          (token_in old.names c.args.token) c.meaning.new.self c.in-Err.stop c.in-Err.ensures.means;
      ready = tt;
      keeps = tt;
    }
