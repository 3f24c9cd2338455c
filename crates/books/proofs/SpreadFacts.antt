-- The checker computes the facts on how far marks spread.
use mathlib.Core.Path.{refl}
use Rattle.parts.specs.Bytes.{little_at, big_at}
use Rattle.map.specs.Rows.{pair_at, pairs_in, peers, digests}
use Rattle.point.specs.Point.{prev_id, source, target}
use Rattle.point.specs.Written.{point_bytes}
use Rattle.rules.specs.Mismatch.{mismatch, uncovered}
use Rattle.rules.specs.Validate.{validate}
use Rattle.books.specs.Kept.{find_kept, mark}
use Rattle.books.specs.Lists.{direct_list, indirect_list}
use Rattle.books.specs.Spread.{covers}
use Rattle.books.specs.Offer.{answer_over, offer_in}
use Rattle.books.specs.Run.{run}
use Rattle.books.specs.Example.{schedule_bytes}
use Rattle.books.specs.SpreadFacts.{SpreadFacts}

pub spread_facts : SpreadFacts
unfolding run offer_in point_bytes schedule_bytes little_at big_at pairs_in pair_at peers digests covers mark find_kept prev_id answer_over direct_list indirect_list mismatch uncovered validate source target
spread_facts =
    record {
      one = refl;
      two = refl;
      three = refl;
      witness_one = refl;
      witness_two = refl;
      no_previous = refl;
      unkept = refl;
      whole_id = refl;
      valid = refl;
      trans_invalid = refl;
      invalid = refl;
      ill_formed = refl;
      genesis_round = refl;
      marked_before = refl;
      marked_stays = refl;
      missing = refl;
      wider = refl;
      narrower = refl;
    }
