-- What the code's values stand for.
use Rattle.std.specs.Prelude.{ℕ, List, ◌≡◌, Some}
use Rattle.parts.specs.Code.{number}
use Rattle.map.specs.Rows.{peers_of, pairs_of}
use Rattle.record.specs.Record.{start_of, content_of}
use Rattle.point.specs.Point.{PointId, Through, Includes, Witness, AnchorLink, Direct, Indirect, PointInfo, Sticky, AnchorView}
use Rattle.point.specs.Reading.{read_point}
use Rattle.point.specs.declared.data.AnchorStageRole.{AnchorStageRole}
use Rattle.point.specs.declared.data.AnchorStageRole.TheVariants.{Proof, Trigger}
use Rattle.point.specs.declared.info.PointId as code-id
use Rattle.point.specs.declared.link.Through as code-through
use Rattle.point.specs.declared.link.Through.TheVariants as case-through
use Rattle.point.specs.declared.link.AnchorLink as code-link
use Rattle.point.specs.declared.link.AnchorLink.TheVariants as case-link
use Rattle.point.specs.declared.info.PointInfo as code-info
use Rattle.point.specs.declared.info.AnchorView as code_view
use Rattle.point.specs.declared.data.StickyAnchors as code-sticky

abbrev pub point_id_of : code-id.PointId → PointId
point_id_of i = record { round = i.round; digest = number i.digest; author = number i.author }

abbrev pub through_of : code-through.Through → Through
through_of (case-through.Includes x) = Includes (number x)
through_of (case-through.Witness x) = Witness (number x)

abbrev pub link_of : code-link.AnchorLink → AnchorLink
link_of (case-link.Direct t) = Direct (through_of t)
link_of (case-link.Indirect l) = Indirect (point_id_of l.to) (through_of l.through)

-- a point of the code has no maps: they are parts of its record
abbrev pub point_of : List ℕ → code-info.PointInfo → PointInfo
point_of s i =
    record {
      id = point_id_of i.id;
      payload_len = i.payload_len;
      payload_bytes = i.payload_bytes;
      includes = pairs_of (content_of s 2);
      witness = pairs_of (content_of s 3);
      evidence = peers_of 32 (content_of s 4);
      anchor_proof = link_of i.anchor_proof;
      anchor_trigger = link_of i.anchor_trigger;
      role = i.role;
      time = i.time;
      anchor_time = i.anchor_time;
    }

-- the link of a role
abbrev pub link_in : AnchorStageRole → code-info.PointInfo → AnchorLink
link_in Proof i = link_of i.anchor_proof
link_in Trigger i = link_of i.anchor_trigger

abbrev pub view_of : code_view.AnchorView → AnchorView
view_of v = record { top = point_id_of v.top; target = point_id_of v.target; source = point_id_of v.source }

-- what the reader gave for a record: the point that it says, and where its maps end
pub record Reads (s : List ℕ) (i : code-info.PointInfo) : Type 0 where
  pub read : read_point s ≡ Some (point_of s i)
  pub includes : i.includes_end ≡ start_of s 3
  pub witness : i.witness_end ≡ start_of s 4
  pub evidence : i.evidence_end ≡ start_of s 5

abbrev pub sticky_of : code-sticky.StickyAnchors → Sticky
sticky_of x = record { seq_no = x.seq_no; is_last = x.is_last }
