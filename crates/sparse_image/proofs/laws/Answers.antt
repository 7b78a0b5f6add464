use Rattle.sparse_image.proofs.WalkLemmas.{walk-agrees}
use Rattle.sparse_image.proofs.PieceLemmas.{kept-long, piece-image, piece-length, pieces-put, pieces-front}
use Rattle.sparse_image.proofs.PutLemmas.{runs-put, runs-front}
use Rattle.sparse_image.proofs.MostLemmas.{pieces-bytes}
use Rattle.sparse_image.proofs.WholeLemmas.{whole-image}
use Rattle.sparse_image.proofs.laws.Goals as goal

pub returns : goal.returns
returns c = record {
  walk_agrees = walk-agrees;
  image_length = kept-long;
  piece_image = piece-image;
  piece_length = piece-length;
  pieces_put = pieces-put;
  pieces_front = pieces-front;
  pieces_bytes = pieces-bytes;
  runs_put = runs-put;
  runs_front = runs-front;
  whole_image = whole-image;
}
