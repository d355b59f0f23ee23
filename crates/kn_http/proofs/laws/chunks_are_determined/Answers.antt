use Rattle.kn_http.proofs.Ones.{size_unique, piece_unique, one_body, no_size, no_trailer}
use Rattle.kn_http.proofs.laws.chunks_are_determined.Goals as goal

pub returns : goal.returns
returns c = record { size = size_unique; piece = piece_unique; body = one_body; no_size = no_size; no_trailer = no_trailer }
