pub mod OtherMembers
