mod ValueLaws
mod MemberLaws
pub mod CodePoints
