use Rattle.std.proofs.Common.{◌≡◌, ap, sym, subst, ◌∙◌}
use Rattle.std.specs.Prelude.{MatchOption}
use Rattle.hol_spec.specs.Mangling.{mangled}
use Rattle.hol_name.specs.Demangled.{HasNoName}
use Rattle.holide_sig.specs.Modules.{declarations_of}
use Rattle.decode_spec.specs.Decode.{behind}
use Rattle.decode_back.proofs.SymbolLemmas.{no_name, has_name}
use Rattle.decode_back.proofs.symbols.name_behind.Goals as goal

pub returns-in_default-found : goal.returns-in_default-found
returns-in_default-found c =
    no_name (declarations_of c.args.source.now) c.args.symbol c.args.front.now c.in-Some.text.now
    (ap (behind c.args.front.now) (sym c.symbol_name.ensures) ∙ sym c.in-Some.ensures)
    (subst (λ o. MatchOption o (HasNoName c.in-Some.text.now) (λ n. mangled n ≡ c.in-Some.text.now)) c.in_default-found.is c.in-Ok.ensures.inverse)

pub returns : goal.returns
returns c =
    has_name (declarations_of c.args.source.now) c.args.symbol c.args.front.now c.in-Some.text.now c.in-Some-found.name
    (ap (behind c.args.front.now) (sym c.symbol_name.ensures) ∙ sym c.in-Some.ensures)
    c.mangled-text.ensures.name
    (subst (λ o. MatchOption o (HasNoName c.in-Some.text.now) (λ n. mangled n ≡ c.in-Some.text.now)) c.in-Some-found.is c.in-Ok.ensures.inverse)
