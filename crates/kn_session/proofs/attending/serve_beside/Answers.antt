use Rattle.kn_session.proofs.attending.serve_beside.Goals as goal

pub beside-requires-clause-ready : goal.beside-requires-clause-ready
beside-requires-clause-ready g c κs within i d low = (c.requires.passes i d low, c.requires.apart)
