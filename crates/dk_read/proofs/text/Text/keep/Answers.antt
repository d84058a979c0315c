use Rattle.std.proofs.Common.{◌+◌, ◌++◌, ◌∙◌, refl, sym, ap, length}
use Rattle.dk_read.specs.declared.text.Pending.TheVariants as pending
use Rattle.dk_read.specs.declared.text.Text.{Text}
use Rattle.dk_read.proofs.Taken.{kept_word}
use Rattle.dk_read.proofs.text.Text.keep.Goals as goal

pub returns-in-Ok : goal.returns-in-Ok
returns-in-Ok c =
    let old = c.args.self.now in
    let piece = c.args.piece.now in
    let r = c.requires in
    let new : Text = record { parser = old.parser; pending = pending.InWord old.place; word = c.extend_from_slice.new.self; place = old.place + length piece }
    in
    record {
      takes = kept_word old new piece (length piece) r.some refl refl r.reading r.pending refl (sym r.all) refl r.some r.letter
          (c.in-Ok.ensures.items ∙ ap (λ l. l ++ piece) c.clear.ensures.items);
    }
