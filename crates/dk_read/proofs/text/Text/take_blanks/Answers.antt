use Rattle.std.proofs.Common.{◌+◌, ◌≤◌, refl, sym, subst}
use Rattle.lp_spec.specs.Tokens.{is_space}
use Rattle.dk_read.specs.declared.text.Text.{Text}
use Rattle.dk_read.proofs.Runs.{run_some}
use Rattle.dk_read.proofs.Taken.{took_blanks}
use Rattle.dk_read.proofs.text.Text.take_blanks.Goals as goal

pub returns : goal.returns
returns c =
    let old = c.args.self.now in
    let n = c.blank_len-count.result in
    let new : Text = record { parser = old.parser; pending = old.pending; word = c.args.self.now.word; place = old.place + n } in
    record {
      takes = took_blanks old new c.args.piece.now n
          (subst (λ k. 1 ≤ k) (sym c.blank_len-count.ensures.run) (run_some is_space c.args.piece.now c.requires.some c.requires.blank)) refl refl
          c.requires.reading c.requires.pending c.requires.pending c.blank_len-count.ensures.run;
    }
