use Rattle.decode_back.proofs.heads.binder.Goals as goal

pub decode_type-requires-clause-held : goal.decode_type-requires-clause-held
decode_type-requires-clause-held c = c.requires.source.held

pub decode_type-requires-clause-few : goal.decode_type-requires-clause-few
decode_type-requires-clause-few c = c.requires.source.few
