use Rattle.std.proofs.Common.{◌≡◌, [], length, sym, subst}
use Rattle.lp_spec.specs.Text.{prelude}
use Rattle.lp_spec.specs.Tokens as tokens
use Rattle.lp_spec.specs.ReadingFaults as reading
use Rattle.dk_read.specs.Texts.{inside}
use Rattle.dk_read.specs.Firsts.{IsFirst}
use Rattle.dk_read.specs.declared.parser.Parser.{Parser}
use Rattle.dk_read.specs.declared.text.Text.{Text}
use Rattle.dk_read.proofs.Sharings.{first_over, first_fed}
use Rattle.dk_read.proofs.sharing.SharingReader.new.Goals as goal

pub returns-clause-going : goal.returns-clause-going
returns-clause-going c = λ trees holds. first_over c.reserve.new.self trees (subst IsFirst (sym c.reserve.ensures) c.in_ok-text.ensures.first) holds

pub returns-clause-fed : goal.returns-clause-fed
returns-clause-fed c = λ trees.
    let t = c.in_ok-text.text in
    let over : Parser → Text = λ p. record { parser = p; pending = t.pending; word = t.word; place = t.place } in
    first_fed (over c.reserve.new.self) trees (subst IsFirst (sym c.reserve.ensures) c.in_ok-text.ensures.first)
    (subst (λ p. inside (over p) ≡ reading.Inside (length prelude) tokens.Nothing [] reading.Between) (sym c.reserve.ensures)
    c.in_ok-text.ensures.inside)
