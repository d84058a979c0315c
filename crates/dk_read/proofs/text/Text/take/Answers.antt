use Rattle.std.proofs.Common.{refl}
use Rattle.dk_read.specs.declared.text.Pending.TheVariants as pending
use Rattle.dk_read.proofs.NextBytes.{next_does, next_sticks, AfterColon-assign, AfterColon-other, AfterMinus-arrow, AfterMinus-other, AfterEquals-arrow, AfterEquals-other, AfterParen-comment, AfterParen-other, InComment-semicolon, InComment-other, AfterSemicolon-end, AfterSemicolon-semicolon, AfterSemicolon-other}
use Rattle.dk_read.proofs.text.Text.take.Goals as goal

pub returns-in-Nothing : goal.returns-in-Nothing
returns-in-Nothing c =
    let old = c.args.self.now in
    record {
      takes = next_does old c.begin.new.self pending.Nothing c.args.byte _ c.begin.result c.in-Nothing.is refl c.begin.ensures.takes;
      reading = c.begin.ensures.reading;
      place = c.begin.ensures.place;
      keeps = c.begin.ensures.keeps;
    }

pub returns-in-InWord : goal.returns-in-InWord
returns-in-InWord c =
    let old = c.args.self.now in
    record {
      takes = next_does old c.in_word.new.self (pending.InWord c.in-InWord.first) c.args.byte _ c.in_word.result c.in-InWord.is refl c.in_word.ensures.takes;
      reading = c.in_word.ensures.reading;
      place = c.in_word.ensures.place;
      keeps = c.in_word.ensures.keeps;
    }

pub returns-then-byte-eq61 : goal.returns-then-byte-eq61
returns-then-byte-eq61 c =
    let old = c.args.self.now in
    record {
      takes = next_does old c.end_token.new.self (pending.AfterColon c.in-AfterColon.first) c.args.byte _ c.end_token.result c.in-AfterColon.is
          (AfterColon-assign c.in-AfterColon.first old.place c.args.byte c.if-byte-eq61.true) c.end_token.ensures.takes;
      reading = c.end_token.ensures.reading;
      place = c.end_token.ensures.place;
      keeps = c.end_token.ensures.keeps;
    }

pub returns-else-byte-eq61 : goal.returns-else-byte-eq61
returns-else-byte-eq61 c =
    let old = c.args.self.now in
    record {
      takes = next_does old c.end_and_begin.new.self (pending.AfterColon c.in-AfterColon.first) c.args.byte _ c.end_and_begin.result c.in-AfterColon.is
          (AfterColon-other c.in-AfterColon.first old.place c.args.byte c.if-byte-eq61.false) c.end_and_begin.ensures.takes;
      reading = c.end_and_begin.ensures.reading;
      place = c.end_and_begin.ensures.place;
      keeps = c.end_and_begin.ensures.keeps;
    }

pub returns-then-byte-eq62 : goal.returns-then-byte-eq62
returns-then-byte-eq62 c =
    let old = c.args.self.now in
    record {
      takes = next_does old c.end_token-then-byte-eq62.new.self (pending.AfterMinus c.in-AfterMinus.first) c.args.byte _ c.end_token-then-byte-eq62.result
          c.in-AfterMinus.is (AfterMinus-arrow c.in-AfterMinus.first old.place c.args.byte c.if-byte-eq62.true) c.end_token-then-byte-eq62.ensures.takes;
      reading = c.end_token-then-byte-eq62.ensures.reading;
      place = c.end_token-then-byte-eq62.ensures.place;
      keeps = c.end_token-then-byte-eq62.ensures.keeps;
    }

pub returns-else-byte-eq62 : goal.returns-else-byte-eq62
returns-else-byte-eq62 c =
    let old = c.args.self.now in
    record {
      takes = next_sticks old (record { parser = c.stuck.new.self; pending = old.pending; word = old.word; place = old.place })
          (pending.AfterMinus c.in-AfterMinus.first) c.args.byte c.in-AfterMinus.first c.stuck.result c.in-AfterMinus.is
          (AfterMinus-other c.in-AfterMinus.first old.place c.args.byte c.if-byte-eq62.false) c.stuck.ensures;
      reading = tt;
      place = tt;
      keeps = tt;
    }

pub returns-then-byte-eq62-2 : goal.returns-then-byte-eq62-2
returns-then-byte-eq62-2 c =
    let old = c.args.self.now in
    record {
      takes = next_does old c.end_token-then-byte-eq62-2.new.self (pending.AfterEquals c.in-AfterEquals.first) c.args.byte _ c.end_token-then-byte-eq62-2.result
          c.in-AfterEquals.is (AfterEquals-arrow c.in-AfterEquals.first old.place c.args.byte c.if-byte-eq62-2.true) c.end_token-then-byte-eq62-2.ensures.takes;
      reading = c.end_token-then-byte-eq62-2.ensures.reading;
      place = c.end_token-then-byte-eq62-2.ensures.place;
      keeps = c.end_token-then-byte-eq62-2.ensures.keeps;
    }

pub returns-else-byte-eq62-2 : goal.returns-else-byte-eq62-2
returns-else-byte-eq62-2 c =
    let old = c.args.self.now in
    record {
      takes = next_sticks old (record { parser = c.stuck-else-byte-eq62-2.new.self; pending = old.pending; word = old.word; place = old.place })
          (pending.AfterEquals c.in-AfterEquals.first) c.args.byte c.in-AfterEquals.first c.stuck-else-byte-eq62-2.result c.in-AfterEquals.is
          (AfterEquals-other c.in-AfterEquals.first old.place c.args.byte c.if-byte-eq62-2.false) c.stuck-else-byte-eq62-2.ensures;
      reading = tt;
      place = tt;
      keeps = tt;
    }

pub returns-then-byte-eq59 : goal.returns-then-byte-eq59
returns-then-byte-eq59 c =
    let old = c.args.self.now in
    record {
      takes = next_does old c.wait.new.self (pending.AfterParen c.in-AfterParen.first) c.args.byte _ c.wait.result c.in-AfterParen.is
          (AfterParen-comment c.in-AfterParen.first old.place c.args.byte c.if-byte-eq59.true) c.wait.ensures.takes;
      reading = c.wait.ensures.reading;
      place = c.wait.ensures.place;
      keeps = c.wait.ensures.keeps;
    }

pub returns-else-byte-eq59 : goal.returns-else-byte-eq59
returns-else-byte-eq59 c =
    let old = c.args.self.now in
    record {
      takes = next_does old c.end_and_begin-else-byte-eq59.new.self (pending.AfterParen c.in-AfterParen.first) c.args.byte _
          c.end_and_begin-else-byte-eq59.result c.in-AfterParen.is (AfterParen-other c.in-AfterParen.first old.place c.args.byte c.if-byte-eq59.false)
          c.end_and_begin-else-byte-eq59.ensures.takes;
      reading = c.end_and_begin-else-byte-eq59.ensures.reading;
      place = c.end_and_begin-else-byte-eq59.ensures.place;
      keeps = c.end_and_begin-else-byte-eq59.ensures.keeps;
    }

pub returns-then-byte-eq59-2 : goal.returns-then-byte-eq59-2
returns-then-byte-eq59-2 c =
    let old = c.args.self.now in
    record {
      takes = next_does old c.wait-then-byte-eq59-2.new.self (pending.InComment c.in-InComment.first) c.args.byte _ c.wait-then-byte-eq59-2.result
          c.in-InComment.is (InComment-semicolon c.in-InComment.first old.place c.args.byte c.if-byte-eq59-2.true) c.wait-then-byte-eq59-2.ensures.takes;
      reading = c.wait-then-byte-eq59-2.ensures.reading;
      place = c.wait-then-byte-eq59-2.ensures.place;
      keeps = c.wait-then-byte-eq59-2.ensures.keeps;
    }

pub returns-else-byte-eq59-2 : goal.returns-else-byte-eq59-2
returns-else-byte-eq59-2 c =
    let old = c.args.self.now in
    record {
      takes = next_does old c.wait-else-byte-eq59-2.new.self (pending.InComment c.in-InComment.first) c.args.byte _ c.wait-else-byte-eq59-2.result
          c.in-InComment.is (InComment-other c.in-InComment.first old.place c.args.byte c.if-byte-eq59-2.false) c.wait-else-byte-eq59-2.ensures.takes;
      reading = c.wait-else-byte-eq59-2.ensures.reading;
      place = c.wait-else-byte-eq59-2.ensures.place;
      keeps = c.wait-else-byte-eq59-2.ensures.keeps;
    }

pub returns-then-byte-eq41 : goal.returns-then-byte-eq41
returns-then-byte-eq41 c =
    let old = c.args.self.now in
    record {
      takes = next_does old c.wait-then-byte-eq41.new.self (pending.AfterSemicolon c.in-AfterSemicolon.first) c.args.byte _ c.wait-then-byte-eq41.result
          c.in-AfterSemicolon.is (AfterSemicolon-end c.in-AfterSemicolon.first old.place c.args.byte c.if-byte-eq41.true) c.wait-then-byte-eq41.ensures.takes;
      reading = c.wait-then-byte-eq41.ensures.reading;
      place = c.wait-then-byte-eq41.ensures.place;
      keeps = c.wait-then-byte-eq41.ensures.keeps;
    }

pub returns-then-byte-eq59-3 : goal.returns-then-byte-eq59-3
returns-then-byte-eq59-3 c =
    let old = c.args.self.now in
    record {
      takes = next_does old c.wait-then-byte-eq59-3.new.self (pending.AfterSemicolon c.in-AfterSemicolon.first) c.args.byte _ c.wait-then-byte-eq59-3.result
          c.in-AfterSemicolon.is (AfterSemicolon-semicolon c.in-AfterSemicolon.first old.place c.args.byte c.if-byte-eq59-3.true)
          c.wait-then-byte-eq59-3.ensures.takes;
      reading = c.wait-then-byte-eq59-3.ensures.reading;
      place = c.wait-then-byte-eq59-3.ensures.place;
      keeps = c.wait-then-byte-eq59-3.ensures.keeps;
    }

pub returns-else-byte-eq59-3 : goal.returns-else-byte-eq59-3
returns-else-byte-eq59-3 c =
    let old = c.args.self.now in
    record {
      takes = next_does old c.wait-else-byte-eq59-3.new.self (pending.AfterSemicolon c.in-AfterSemicolon.first) c.args.byte _ c.wait-else-byte-eq59-3.result
          c.in-AfterSemicolon.is (AfterSemicolon-other c.in-AfterSemicolon.first old.place c.args.byte c.if-byte-eq41.false c.if-byte-eq59-3.false)
          c.wait-else-byte-eq59-3.ensures.takes;
      reading = c.wait-else-byte-eq59-3.ensures.reading;
      place = c.wait-else-byte-eq59-3.ensures.place;
      keeps = c.wait-else-byte-eq59-3.ensures.keeps;
    }
