use Rattle.std.proofs.Common.{ℕ, List, ◌++◌, OnOk, sym, subst}
use Rattle.lp_spec.specs.Trees.{Tree}
use Rattle.lp_term.specs.Tables.{Keeps}
use Rattle.dk_read.specs.declared.text.Text.{Text}
use Rattle.dk_read.specs.States.{IsReading}
use Rattle.dk_read.specs.Readers.{IsFed, Judges}
use Rattle.dk_read.specs.Sharing.{with_table, reading_of}
use Rattle.dk_read.proofs.Sharings.{given_back, piece_shared, piece_fed}
use Rattle.dk_read.proofs.sharing.SharingReader.feed.Goals as goal

pub read_on-fed-requires : goal.read_on-fed-requires
read_on-fed-requires c = record { reading = subst (λ (t : Text). IsReading t.parser) (sym c.exchange.ensures.text) c.requires.going }

pub returns-clause-going : goal.returns-clause-going
returns-clause-going c =
    let back = given_back c.read_on-fed.new.text c.exchange-2.new.self c.exchange.new.table c.exchange-2.new.table c.exchange-2.ensures.text
    c.exchange-2.ensures.table in
    subst (λ (t : Text). OnOk c.read_on-fed.result (IsReading t.parser)) (sym back) c.read_on-fed.ensures.reading

pub returns-clause-feeds : goal.returns-clause-feeds
returns-clause-feeds c =
    let r = c.read_on-fed.result in
    let piece = c.args.piece.now in
    let first = with_table c.args.self.now.text c.args.table.now in
    let last = c.read_on-fed.new.text in
    let back = given_back last c.exchange-2.new.self c.exchange.new.table c.exchange-2.new.table c.exchange-2.ensures.text c.exchange-2.ensures.table in
    subst (λ (t : Text). OnOk r ((text : List ℕ) → IsFed (reading_of first) text → IsFed (reading_of t) (text ++ piece))) (sym back)
    (subst (λ (t : Text). OnOk r ((text : List ℕ) → IsFed (reading_of t) text → IsFed (reading_of last) (text ++ piece))) c.exchange.ensures.text
    (piece_fed c.exchange.new.self last piece r c.read_on-fed.ensures.goes c.read_on-fed.ensures.reading))

pub returns-clause-judges : goal.returns-clause-judges
returns-clause-judges c =
    let e = c.read_on-fed.ensures in
    subst (λ (t : Text). Judges (reading_of t) c.args.piece.now c.read_on-fed.result) c.exchange.ensures.text
    (piece_shared c.exchange.new.self c.read_on-fed.new.text c.args.piece.now c.read_on-fed.result e.goes e.reading e.stops e.place)

pub returns-clause-keeps : goal.returns-clause-keeps
returns-clause-keeps c =
    let r = c.read_on-fed.result in
    let last = c.read_on-fed.new.text in
    subst (λ (ts : List Tree). OnOk r (Keeps c.args.table.now ts)) (sym c.exchange-2.ensures.table)
    (subst (λ (t : Text). OnOk r (Keeps t.parser.module.table last.parser.module.table)) c.exchange.ensures.text c.read_on-fed.ensures.keeps)
