use Rattle.std.proofs.Common.{sym, ap}
use Rattle.lp_spec.specs.Tokens as tokens
use Rattle.dk_read.proofs.Bytes.{reading_grows, advance_grows}
use Rattle.dk_read.proofs.Declared.{becomes_as}
use Rattle.dk_read.proofs.Kept.{kept_on}
use Rattle.dk_read.proofs.parser.Parser.identifier.Goals as goal

pub advance-requires-clause-reading : goal.advance-requires-clause-reading
advance-requires-clause-reading c = reading_grows c.args.self.now c.number.new.self c.number.ensures.grows c.requires.reading

pub returns-clause-becomes : goal.returns-clause-becomes
returns-clause-becomes c =
    becomes_as _ _ c.advance.new.self c.advance.result
    (advance_grows c.args.self.now c.number.new.self c.args.place (tokens.Name c.args.word.now) _ c.number.ensures.grows c.requires.reading
    (ap tokens.Name (sym c.in_ok-name.ensures.named)))
    c.advance.ensures.becomes

pub returns-clause-keeps : goal.returns-clause-keeps
returns-clause-keeps c = kept_on c.advance.result c.advance.new.self.module.table c.number.ensures.grows.keeps c.advance.ensures.keeps
