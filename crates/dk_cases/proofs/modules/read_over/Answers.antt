use Rattle.dk_cases.proofs.modules.read_over.Goals as goal

pub feed-requires : goal.feed-requires
feed-requires c =
    record { going = c.in-Ok.ensures.going c.args.source.table (record { types = c.requires.held.types; distinct = c.requires.held.distinct }) }
